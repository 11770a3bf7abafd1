-- A write to the split memory, as the writable area holds it.
use Rattle.std.proofs.Common.{◌≡◌, ℕ, ◌+◌, ◌-◌, ◌*◌, ◌/◌, ◌<◌, ◌≤◌, List, length, set, arith}
use mathlib.Core.Path.{fun_ext}
use base.Fml.{GName}
use Rattle.std.proofs.lemmas.List.{length-set, get_or-set_same, get_or-set_other}
use Rattle.std.proofs.lemmas.Bool.Decides.{nat_tests}
use Rattle.memory.specs.declared.Mark.TheVariants.{Plain}
use Rattle.memory.specs.Meaning.{put}
use Rattle.memory.specs.Flat.{whole_frames}
use Rattle.memory.specs.Split.{plain_frames, split_marks, split_bytes, split_rest}

-- a plain frame comes after the fixed ones and before the absent ones
plain_within : (r w f : ℕ) → Plain ≡ split_marks r w f → (whole_frames r ≤ f) × (f < whole_frames r + plain_frames r w)
plain_within r w f h = (grind (arith, nat_tests), grind (arith, nat_tests))

module _ (fixed plain : List ℕ) (a byte : ℕ) (room : a < 65536) (is_plain : Plain ≡ split_marks (length fixed) (length plain) (a / 1024)) where
  pub split_put : split_bytes fixed (set plain (a - length fixed / 1024 * 1024) byte) ≡ put (split_bytes fixed plain) a byte
  split_put = fun_ext (λ k.
      let w = plain_within (length fixed) (length plain) (a / 1024) is_plain in
      let l = length-set plain (a - length fixed / 1024 * 1024) byte in
      let s = get_or-set_same plain (a - length fixed / 1024 * 1024) byte 0 in
      let o = get_or-set_other plain (a - length fixed / 1024 * 1024) (k - whole_frames (length fixed) * 1024) byte 0 in
      grind (arith, nat_tests))

  pub put_rest : (place : GName) → split_rest (length fixed) (set plain (a - length fixed / 1024 * 1024) byte) place ≡ split_rest (length fixed) plain place
  put_rest place =
      let l = length-set plain (a - length fixed / 1024 * 1024) byte in
      let out : (split_rest (length fixed) (set plain (a - length fixed / 1024 * 1024) byte) place).outside ≡ (split_rest (length fixed) plain place).outside =
      fun_ext (λ k.
      let w = plain_within (length fixed) (length plain) (a / 1024) is_plain in
      let o = get_or-set_other plain (a - length fixed / 1024 * 1024) k byte 0 in
      grind (arith, nat_tests)) in
      λ i. record { outside = out i; size = l i; place = place }
