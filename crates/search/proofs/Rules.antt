-- What is found passes the test, and a rule that holds of every element of a list holds of what is found in it.
use Rattle.std.specs.List.{find, list_all}
use Rattle.std.proofs.Common.{◌≡◌, ℕ, zero, suc, Bool, true, false, cond, ◌&&◌, T, List, [], ◌∷◌, map, take, drop, Some, None, Option, refl, subst, arith}

pub and_left : (a b : Bool) → T (a && b) → T a
and_left true b t = tt
and_left false b t = t

pub and_right : (a b : Bool) → T (a && b) → T b
and_right true b t = t
and_right false b t = absurd t

pub and_both : (a b : Bool) → T a → T b → T (a && b)
and_both true b s t = t
and_both false b s t = s

-- a rule as a fact of each element
abbrev pub Each : {A : Type 0} → (A → Type 0) → List A → Type 0
Each P [] = Unit {0}
Each P (x ∷ xs) = P x × Each P xs

pub each_all : {A : Type 0} (rule : A → Bool) (xs : List A) → T (list_all rule xs) → Each (λ (x : A). T (rule x)) xs
each_all rule [] t = tt
each_all rule (x ∷ xs) t = (and_left (rule x) (list_all rule xs) t, each_all rule xs (and_right (rule x) (list_all rule xs) t))

-- two lists that are computed from one list and are the same, element for element
pub each_same : {A B : Type 0} (f g : A → B) (xs : List A) → map f xs ≡ map g xs → Each (λ (x : A). f x ≡ g x) xs
each_same f g [] e = tt
each_same f g (x ∷ xs) e = (cc, each_same f g xs cc)

-- a long test is computed in parts
pub all_split : {A : Type 0} (rule : A → Bool) (n : ℕ) (xs : List A) → T (list_all rule (take n xs)) → T (list_all rule (drop n xs)) → T (list_all rule xs)
all_split rule zero xs s t = t
all_split rule (suc n) [] s t = t
all_split rule (suc n) (x ∷ xs) s t =
    and_both (rule x) (list_all rule xs) (and_left (rule x) (list_all rule (take n xs)) s) (all_split rule n xs (and_right (rule x) (list_all rule (take n xs)) s) t)

none_some : {A : Type 0} (r : A) → ◌≡◌ {A = Option A} None (Some r) → ⊥
none_some r e = let z : ◌≡◌ {A = ℕ} 0 1 = cc in omega arith

some_same : {A : Type 0} (x r : A) → ◌≡◌ {A = Option A} (Some x) (Some r) → x ≡ r
some_same x r e = cc

pub first_each : {A : Type 0} (test : A → Bool) (P : A → Type 0) (xs : List A) → Each P xs → (r : A) → find test xs ≡ Some r → P r
first_each {A} test P [] t r e = absurd (none_some r e)
first_each {A} test P (x ∷ xs) t r e = go (test x) (first_each test P xs t.1 r) e
  where
    go : (b : Bool) → (find test xs ≡ Some r → P r) → cond b (Some x) (find test xs) ≡ Some r → P r
    go true rest p = subst P (some_same x r p) t.0
    go false rest p = rest p

pub first_passes : {A : Type 0} (test : A → Bool) (xs : List A) (r : A) → find test xs ≡ Some r → test r ≡ true
first_passes {A} test [] r e = absurd (none_some r e)
first_passes {A} test (x ∷ xs) r e = go (test x) refl (first_passes test xs r) e
  where
    go : (b : Bool) → test x ≡ b → (find test xs ≡ Some r → test r ≡ true) → cond b (Some x) (find test xs) ≡ Some r → test r ≡ true
    go true q rest p = subst (λ (y : A). test y ≡ true) (some_same x r p) q
    go false q rest p = rest p
