-- Two machines that are given the same calls.
use Rattle.std.specs.Prelude.{ℕ, ◌+◌, cond, ◌||◌, List, [], ◌∷◌, None, Option}
use Rattle.translation.specs.declared.event.Event.{Event}
use Rattle.execution.specs.Worlds.{Outcome, World}
use Rattle.calls.specs.declared.Answer.{Answer}
use Rattle.calls.specs.declared.Call.{Call}
use Rattle.calls.specs.Calls.{call_of, enters, entry_of}
use Rattle.comparing.specs.declared.exchange.Comparison.{Comparison}
use Rattle.comparing.specs.declared.exchange.Exchange.{Exchange}

abbrev pub exchange : Answer → Answer → Exchange
exchange ours theirs = record { ours = ours; theirs = theirs }

abbrev pub comparison : ℕ → Option Event → Option Event → Comparison
comparison calls ours theirs = record { calls = calls; ours = ours; theirs = theirs }

-- What a comparison leaves: both machines over their memories, and the slots for the answers. And what it answers.
pub record Compared : Type 0 where
  pub ours : World
  pub theirs : World
  pub exchanges : List Exchange
  pub answer : Comparison

abbrev pub compared : World → World → List Exchange → Comparison → Compared
compared a b slots r = record { ours = a; theirs = b; exchanges = slots; answer = r }

-- One call more, given before the others: its answers are in the first slot.
abbrev pub one_more : Exchange → Compared → Compared
one_more e o = compared o.ours o.theirs (e ∷ o.exchanges) (comparison (o.answer.calls + 1) o.answer.ours o.answer.theirs)

-- The call in which one of the two machines enters the system is the last, and the slots after it stay; after any other call
-- the comparison goes on, as `others` says.
abbrev pub compared_on : Outcome Answer → Outcome Answer → List Exchange → (World → World → Compared) → Compared
compared_on x y slots others =
    one_more (exchange x.answer y.answer)
    (cond (enters x.answer || enters y.answer)
    (compared x.after y.after slots (comparison 0 (entry_of x.answer) (entry_of y.answer)))
    (others x.after y.after))

-- Each call is given to both, while there are calls and slots.
unfoldable pub compare_of : List Call → List Exchange → World → World → Compared
compare_of [] slots a b = compared a b slots (comparison 0 None None)
compare_of (c ∷ cs) [] a b = compared a b [] (comparison 0 None None)
compare_of (c ∷ cs) (e ∷ slots) a b = compared_on (call_of c a) (call_of c b) slots (compare_of cs slots)
