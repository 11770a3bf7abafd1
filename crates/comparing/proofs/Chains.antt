-- A comparison is a chain of calls on each side.
use Rattle.std.proofs.Common.{◌≡◌, ℕ, ◌+◌, Bool, true, false, cond, ◌||◌, List, [], ◌∷◌, map, take, sym, refl, ap, subst, add-one}
use Rattle.execution.specs.Worlds.{Outcome, World, outcome}
use Rattle.calls.specs.declared.Answer.{Answer}
use Rattle.calls.specs.declared.Call.{Call}
use Rattle.calls.specs.Calls.{call_of, enters, entry_of}
use Rattle.calls.specs.Chains.{Chain, done, next, entry}
use Rattle.comparing.specs.declared.exchange.Exchange.{Exchange}
use Rattle.comparing.specs.Comparisons.{Compared, compare_of, compared, comparison, exchange, one_more}

-- what one side answered in the slots
abbrev pub our : Exchange → Answer
our e = e.ours

abbrev pub their : Exchange → Answer
their e = e.theirs

-- one call more, made before the others
more : (side : Exchange → Answer) (c : Call) (cs : List Call) (e : Exchange) (es : List Exchange) (w v x : World) (n : ℕ)
    → call_of c w ≡ outcome v (side e) → enters (side e) ≡ false → Chain (take n cs) v (map side (take n es)) x
    → Chain (take (n + 1) (c ∷ cs)) w (map side (take (n + 1) (e ∷ es))) x
more side c cs e es w v x n p q chain =
    subst (λ (k : ℕ). Chain (take k (c ∷ cs)) w (map side (take k (e ∷ es))) x) (sym (add-one n)) (next p q chain)

-- the last call, whether it enters or not
last : (c : Call) (w v : World) (r : Answer) (t : Bool) → call_of c w ≡ outcome v r → enters r ≡ t → Chain (c ∷ []) w (r ∷ []) v
last c w v r true p q = entry p q
last c w v r false p q = next p q done

-- a chain of the calls that were made, with the answers in their slots, on each side
pub record Chains (cs : List Call) (a b : World) (o : Compared) : Type 0 where
  pub ours : Chain (take o.answer.calls cs) a (map our (take o.answer.calls o.exchanges)) o.ours
  pub theirs : Chain (take o.answer.calls cs) b (map their (take o.answer.calls o.exchanges)) o.theirs

turned : (c : Call) (cs : List Call) (slots : List Exchange) (a b : World) (x y : Outcome Answer) (s t : Bool)
    → call_of c a ≡ x → call_of c b ≡ y → enters x.answer ≡ s → enters y.answer ≡ t
    → Chains cs x.after y.after (compare_of cs slots x.after y.after)
    → Chains (c ∷ cs) a b
    (one_more (exchange x.answer y.answer)
    (cond (s || t) (compared x.after y.after slots (comparison 0 (entry_of x.answer) (entry_of y.answer))) (compare_of cs slots x.after y.after)))
turned c cs slots a b x y true t p q h k others =
    record { ours = last c a x.after x.answer true p h; theirs = last c b y.after y.answer t q k }
turned c cs slots a b x y false true p q h k others =
    record { ours = last c a x.after x.answer false p h; theirs = last c b y.after y.answer true q k }
turned c cs slots a b x y false false p q h k others =
    let o = compare_of cs slots x.after y.after in
    let e = exchange x.answer y.answer in
    record {
      ours = more our c cs e o.exchanges a x.after o.ours o.answer.calls p h others.ours;
      theirs = more their c cs e o.exchanges b y.after o.theirs o.answer.calls q k others.theirs;
    }

pub chains : (cs : List Call) (slots : List Exchange) (a b : World) → Chains cs a b (compare_of cs slots a b)
unfolding compare_of
chains [] slots a b = record { ours = done; theirs = done }
chains (c ∷ cs) [] a b = record { ours = done; theirs = done }
chains (c ∷ cs) (e ∷ slots) a b =
    let x = call_of c a in
    let y = call_of c b in
    turned c cs slots a b x y (enters x.answer) (enters y.answer) refl refl refl refl (chains cs slots x.after y.after)

-- where all answers are equal, so are the entries
same_head : (r q : Answer) (rs qs : List Answer) → r ∷ rs ≡ q ∷ qs → r ≡ q
same_head r q rs qs h = cc

same_tail : (r q : Answer) (rs qs : List Answer) → r ∷ rs ≡ q ∷ qs → rs ≡ qs
same_tail r q rs qs h = cc

abbrev SameAnswers : Compared → Type 0
SameAnswers o = map our (take o.answer.calls o.exchanges) ≡ map their (take o.answer.calls o.exchanges)

split : (e : Exchange) (o : Compared) → SameAnswers (one_more e o) → (e.ours ≡ e.theirs) × SameAnswers o
split e o h =
    let k : e.ours ∷ map our (take o.answer.calls o.exchanges) ≡ e.theirs ∷ map their (take o.answer.calls o.exchanges) =
    subst (λ (n : ℕ). map our (take n (e ∷ o.exchanges)) ≡ map their (take n (e ∷ o.exchanges))) (add-one o.answer.calls) h in
    (same_head _ _ _ _ k, same_tail _ _ _ _ k)

same_cond : (x y : Outcome Answer) (slots : List Exchange) (t : Bool) (o : Compared) → x.answer ≡ y.answer → (SameAnswers o → o.answer.ours ≡ o.answer.theirs)
    → let u = cond t (compared x.after y.after slots (comparison 0 (entry_of x.answer) (entry_of y.answer))) o in
    SameAnswers u → u.answer.ours ≡ u.answer.theirs
same_cond x y slots true o h others s = ap entry_of h
same_cond x y slots false o h others s = others s

pub same_entries : (cs : List Call) (slots : List Exchange) (a b : World) → SameAnswers (compare_of cs slots a b)
    → (compare_of cs slots a b).answer.ours ≡ (compare_of cs slots a b).answer.theirs
unfolding compare_of
same_entries [] slots a b h = refl
same_entries (c ∷ cs) [] a b h = refl
same_entries (c ∷ cs) (e ∷ slots) a b h =
    let x = call_of c a in
    let y = call_of c b in
    let t = enters x.answer || enters y.answer in
    let o = compare_of cs slots x.after y.after in
    let rest = cond t (compared x.after y.after slots (comparison 0 (entry_of x.answer) (entry_of y.answer))) o in
    let p = split (exchange x.answer y.answer) rest h in
    same_cond x y slots t o p.0 (same_entries cs slots x.after y.after) p.1
