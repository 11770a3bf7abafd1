-- The calls that a script makes of a machine.
use Rattle.std.specs.Prelude.{Some, None, Option}
use Rattle.calls.specs.declared.Call.{Call}
use Rattle.calls.specs.declared.Call.TheVariants as call
use Rattle.monitor.specs.Commands.{Said, nothing, unknown, text, word, list, flat_memory, split_memory, split_memory_over, load, bytes, reset, step, run, user_run, raise, drive, register, system_register, pc, output, state, pair}

-- The commands that are calls. No other command may stand in a script.
abbrev pub call_said : Said → Option Call
call_said step = Some call.Step
call_said (user_run n) = Some (call.UserRun n)
call_said (raise l) = Some (call.Raise l)
call_said (drive p w) = Some (call.Drive p w)
call_said (register n) = Some (call.Register n)
call_said (output p) = Some (call.Output p)
call_said nothing = None
call_said unknown = None
call_said (text w) = None
call_said (word t) = None
call_said (list f) = None
call_said (flat_memory n) = None
call_said (split_memory r w) = None
call_said (split_memory_over f w) = None
call_said (load f) = None
call_said (bytes a n) = None
call_said reset = None
call_said (run n) = None
call_said (system_register n) = None
call_said pc = None
call_said state = None
call_said (pair f) = None
