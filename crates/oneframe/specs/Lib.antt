pub mod OneFrame
