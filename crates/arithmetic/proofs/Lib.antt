pub mod SignedLaws
