-- Calls made one after the other.
use Rattle.std.specs.Prelude.{◌≡◌, true, false, List, [], ◌∷◌}
use Rattle.execution.specs.Worlds.{World, outcome}
use Rattle.calls.specs.declared.Answer.{Answer}
use Rattle.calls.specs.declared.Call.{Call}
use Rattle.calls.specs.Calls.{call_of, enters}

-- `Chain cs w rs v`: the calls cs, made one after the other from the world w, answered rs and left the world v. Each of them
-- left and answered what its contract says, and none came after the call that entered the system.
pub data Chain : List Call → World → List Answer → World → Type 0 where
  -- no call was made
  done : {w : World} → Chain [] w [] w
  -- a call that did not enter the system, and then the others
  next : {c : Call} {cs : List Call} {w v x : World} {r : Answer} {rs : List Answer} → call_of c w ≡ outcome v r → enters r ≡ false → Chain cs v rs x → Chain (c ∷ cs) w (r ∷ rs) x
  -- the call that entered the system is the last
  entry : {c : Call} {w v : World} {r : Answer} → call_of c w ≡ outcome v r → enters r ≡ true → Chain (c ∷ []) w (r ∷ []) v
