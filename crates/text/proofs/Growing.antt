-- How a text of at most 24 bytes grows.
use Rattle.std.proofs.Common.{◌≡◌, ℕ, zero, suc, ◌+◌, ◌-◌, ◌<◌, List, [], ◌∷◌, ◌++◌, length, get_or, take, refl, arith, append_assoc, append-nil, length-append}
use Rattle.std.proofs.lemmas.List.{length-take, take_more}
use Rattle.std.proofs.lemmas.Grind.{flat_map-append}
use native.Mathlib.Numerals.{unary_clauses}
use Rattle.text.specs.declared.syntax.Piece.{Piece}
use Rattle.text.specs.Lines.{grown}
use Rattle.text.specs.Text.{piece_text, pieces_text}

take_append : (n : ℕ) (a b : List ℕ) → take n (a ++ b) ≡ take n a ++ take (n - length a) b
take_append zero [] b = refl
take_append (suc n) [] b = simp unary_clauses refl
take_append zero (x ∷ a) b = grind arith
take_append (suc n) (x ∷ a) b = grind (arith, take_append n a b)

-- what is left out once stays left out
pub grown_join : (text a b : List ℕ) → grown (grown text a) b ≡ grown text (a ++ b)
grown_join text a b = grind (arith, append_assoc, length-append, length-take, take_append (24 - length text) a b)

pub grown_piece : (word : ℕ) (pieces : List Piece) (i : ℕ) (d : Piece) (text : List ℕ) → i < length pieces
    → grown (grown text (pieces_text word (take i pieces))) (piece_text word (get_or pieces i d)) ≡ grown text (pieces_text word (take (i + 1) pieces))
grown_piece word pieces i d text h =
    simp (grown_join, take_more pieces i d h, flat_map-append (piece_text word) (take i pieces) (get_or pieces i d ∷ []), append-nil) refl
