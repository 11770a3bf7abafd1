-- One turn of a comparison.
use Rattle.std.proofs.Common.{◌≡◌, ℕ, ◌+◌, ◌<◌, min, Bool, true, false, cond, ◌||◌, List, [], ◌∷◌, ◌++◌, length, get_or, take, drop, set, None, Option, sym, refl, ap, ◌∙◌, arith}
use Rattle.std.proofs.lemmas.List.{append_assoc, drop_more, drop-set-lt, length-drop, take-append-drop, take_more_set}
use Rattle.std.proofs.lemmas.Bool.{cond-false, cond-true}
use Rattle.translation.specs.declared.event.Event.{Event}
use Rattle.execution.specs.Worlds.{Outcome, World, outcome}
use Rattle.calls.specs.declared.Answer.{Answer}
use Rattle.calls.specs.declared.Call.{Call}
use Rattle.calls.specs.Calls.{call_of, enters, entry_of, is_event}
use Rattle.comparing.specs.declared.exchange.Exchange.{Exchange}
use Rattle.comparing.specs.Comparisons.{Compared, compare_of, compared, compared_on, comparison, one_more}

-- a comparison, after so many calls whose answers are in the slots before it
abbrev pub after : ℕ → List Exchange → Compared → Compared
after made written o = compared o.ours o.theirs (written ++ o.exchanges) (comparison (o.answer.calls + made) o.answer.ours o.answer.theirs)

-- what is left to compare, after the calls that were made
abbrev pub remaining : ℕ → List Call → List Exchange → World → World → Compared
remaining made cs slots a b = after made (take made slots) (compare_of (drop made cs) (drop made slots) a b)

pub begins : (cs : List Call) (slots : List Exchange) (a b : World) → remaining 0 cs slots a b ≡ compare_of cs slots a b
begins cs slots a b =
    let o = compare_of cs slots a b in
    let k : o.answer.calls + 0 ≡ o.answer.calls = omega arith in
    ap (λ (n : ℕ). compared o.ours o.theirs o.exchanges (comparison n o.answer.ours o.answer.theirs)) k

-- c is the call after those that were made, and d any other
one_call : (cs : List Call) (slots : List Exchange) (made : ℕ) (c d : Call) (e : Exchange) (a b : World) → made < length cs → made < length slots → c ≡ get_or cs made d
    → compare_of (drop made cs) (drop made slots) a b ≡ compared_on (call_of c a) (call_of c b) (drop (made + 1) slots) (compare_of (drop (made + 1) cs) (drop (made + 1) slots))
unfolding compare_of
one_call cs slots made c d e a b h k s =
    ap (λ (l : List Call). compare_of l (drop made slots) a b) (drop_more cs made d h)
    ∙ (ap (λ (x : Call). compare_of (x ∷ drop (made + 1) cs) (drop made slots) a b) (sym s)
    ∙ ap (λ (l : List Exchange). compare_of (c ∷ drop (made + 1) cs) l a b) (drop_more slots made e k))

-- the answers of a call go into its slot
written_on : (slots : List Exchange) (made : ℕ) (e : Exchange) (o : Compared) → made < length slots
    → after made (take made slots) (one_more e o) ≡ after (made + 1) (take (made + 1) (set slots made e)) o
written_on slots made e o h =
    let n : o.answer.calls + 1 + made ≡ o.answer.calls + (made + 1) = omega arith in
    let l : take made slots ++ (e ∷ o.exchanges) ≡ take (made + 1) (set slots made e) ++ o.exchanges =
    sym (append_assoc (take made slots) (e ∷ []) o.exchanges) ∙ ap (λ (p : List Exchange). p ++ o.exchanges) (sym (take_more_set slots made e h)) in
    ap (λ (p : List Exchange). compared o.ours o.theirs p (comparison (o.answer.calls + 1 + made) o.answer.ours o.answer.theirs)) l
    ∙ ap (λ (k : ℕ). compared o.ours o.theirs (take (made + 1) (set slots made e) ++ o.exchanges) (comparison k o.answer.ours o.answer.theirs)) n

-- a call's turn
pub turn : (cs : List Call) (slots : List Exchange) (made : ℕ) (c d : Call) (a b a' b' : World) (e : Exchange) → made < length cs → made < length slots → c ≡ get_or cs made d
    → outcome a' e.ours ≡ call_of c a → outcome b' e.theirs ≡ call_of c b
    → remaining made cs slots a b
    ≡ after (made + 1) (take (made + 1) (set slots made e))
    (cond (enters e.ours || enters e.theirs)
    (compared a' b' (drop (made + 1) (set slots made e)) (comparison 0 (entry_of e.ours) (entry_of e.theirs)))
    (compare_of (drop (made + 1) cs) (drop (made + 1) (set slots made e)) a' b'))
turn cs slots made c d a b a' b' e h k s p q =
    let others = compare_of (drop (made + 1) cs) in
    let x = outcome a' e.ours in
    let y = outcome b' e.theirs in
    let left : drop (made + 1) slots ≡ drop (made + 1) (set slots made e) = sym (drop-set-lt (made + 1) slots made e (omega arith)) in
    ap (after made (take made slots))
    (one_call cs slots made c d e a b h k s
    ∙ (ap (λ (o : Outcome Answer). compared_on o (call_of c b) (drop (made + 1) slots) (others (drop (made + 1) slots))) (sym p)
    ∙ (ap (λ (o : Outcome Answer). compared_on x o (drop (made + 1) slots) (others (drop (made + 1) slots))) (sym q)
    ∙ ap (λ (s : List Exchange). compared_on x y s (others s)) left)))
    ∙ written_on slots made e
    (cond (enters e.ours || enters e.theirs)
    (compared a' b' (drop (made + 1) (set slots made e)) (comparison 0 (entry_of e.ours) (entry_of e.theirs)))
    (compare_of (drop (made + 1) cs) (drop (made + 1) (set slots made e)) a' b')) k

-- what the answers say of an entry
either : (e : Exchange) (x y : Option Event) (t : Bool) → x ≡ entry_of e.ours → y ≡ entry_of e.theirs → is_event x || is_event y ≡ t → enters e.ours || enters e.theirs ≡ t
either e x y t p q h = ap (λ (z : Option Event). is_event z || enters e.theirs) (sym p) ∙ (ap (λ (z : Option Event). is_event x || is_event z) (sym q) ∙ h)

-- neither entered: the comparison goes on
pub goes_on : (cs : List Call) (slots : List Exchange) (made : ℕ) (c d : Call) (a b : World) {a' b' : World} {e : Exchange} {x y : Option Event} {whole : Compared} → made < length cs → made < length slots → c ≡ get_or cs made d
    → outcome a' e.ours ≡ call_of c a → outcome b' e.theirs ≡ call_of c b
    → x ≡ entry_of e.ours → y ≡ entry_of e.theirs → is_event x || is_event y ≡ false
    → remaining made cs slots a b ≡ whole → remaining (made + 1) cs (set slots made e) a' b' ≡ whole
goes_on cs slots made c d a b {a'} {b'} {e} {x} {y} h k s p q px py n i =
    ap (after (made + 1) (take (made + 1) (set slots made e))) (sym (cond-false (enters e.ours || enters e.theirs) _ _ (either e x y false px py n)))
    ∙ (sym (turn cs slots made c d a b a' b' e h k s p q) ∙ i)

-- one entered: the comparison ends with this call
pub ends : (cs : List Call) (slots : List Exchange) (made : ℕ) (c d : Call) (a b : World) {a' b' : World} {e : Exchange} {x y : Option Event} {whole : Compared} → made < length cs → made < length slots → c ≡ get_or cs made d
    → outcome a' e.ours ≡ call_of c a → outcome b' e.theirs ≡ call_of c b
    → x ≡ entry_of e.ours → y ≡ entry_of e.theirs → is_event x || is_event y ≡ true
    → remaining made cs slots a b ≡ whole → compared a' b' (set slots made e) (comparison (made + 1) x y) ≡ whole
ends cs slots made c d a b {a'} {b'} {e} {x} {y} h k s p q px py n i =
    let count : 0 + (made + 1) ≡ made + 1 = omega arith in
    let r = λ (z u : Option Event). compared a' b' (set slots made e) (comparison (made + 1) z u) in
    sym (turn cs slots made c d a b a' b' e h k s p q
    ∙ (ap (after (made + 1) (take (made + 1) (set slots made e))) (cond-true (enters e.ours || enters e.theirs) _ _ (either e x y true px py n))
    ∙ (ap (λ (s : List Exchange). compared a' b' s (comparison (0 + (made + 1)) (entry_of e.ours) (entry_of e.theirs))) (take-append-drop (made + 1) (set slots made e))
    ∙ (ap (λ (m : ℕ). compared a' b' (set slots made e) (comparison m (entry_of e.ours) (entry_of e.theirs))) count
    ∙ (ap (λ (z : Option Event). r z (entry_of e.theirs)) (sym px) ∙ ap (r x) (sym py))))))
    ∙ i

-- with no call left, or no slot, nothing is compared
none_left : (cs : List Call) (slots : List Exchange) (a b : World) → min (length cs) (length slots) ≡ 0 → compare_of cs slots a b ≡ compared a b slots (comparison 0 None None)
unfolding compare_of
none_left [] slots a b h = refl
none_left (c ∷ cs) [] a b h = refl
none_left (c ∷ cs) (e ∷ slots) a b h = absurd (omega arith)

-- and the comparison ends with the calls that were made
pub over : (cs : List Call) (slots slots' : List Exchange) (made most : ℕ) (a b : World) {whole : Compared} → slots' ≡ slots → made ≡ most → made ≡ min (length cs) (length slots)
    → remaining made cs slots a b ≡ whole → compared a b slots' (comparison most None None) ≡ whole
over cs slots slots' made most a b p q h i =
    let count : 0 + made ≡ most = omega arith in
    ap (λ (s : List Exchange). compared a b s (comparison most None None)) p
    ∙ (sym (ap (after made (take made slots)) (none_left (drop made cs) (drop made slots) a b (omega (arith, length-drop made cs, length-drop made slots)))
    ∙ (ap (λ (s : List Exchange). compared a b s (comparison (0 + made) None None)) (take-append-drop made slots)
    ∙ ap (λ (m : ℕ). compared a b slots (comparison m None None)) count))
    ∙ i)
