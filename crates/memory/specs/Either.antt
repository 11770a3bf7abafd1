-- What a memory of one of two kinds means.
use Rattle.memory.specs.declared.either.EitherMemory.{EitherMemory}
use Rattle.memory.specs.declared.either.EitherMemory.TheVariants as kind

-- By the meaning of the kind that it is.
abbrev pub by_either : {A B T : Type 0} → (A → T) → (B → T) → EitherMemory A B → T
by_either one other (kind.One m) = one m
by_either one other (kind.Other m) = other m
