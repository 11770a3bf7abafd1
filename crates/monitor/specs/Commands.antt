-- The command that a line is.
use Rattle.std.specs.Prelude.{ℕ, Bool, if◌then◌else◌, ◌||◌, List, [], ◌∷◌, Some, None, codes, Option, ◌==◌, slice_index}
use Prim.Native.String.{String}
use Rattle.std.specs.Option.{is_none, option_and_then, option_map, unwrap_or}
use Rattle.std.specs.Bool.{then_some}
use Rattle.std.specs.List.{list_all}
use Rattle.std.specs.Str.{bytes_eq}
use Rattle.names.specs.declared.Named.{Named}
use Rattle.names.specs.Names.{filled, named}
use Rattle.monitor.specs.declared.commands.Verb.{Verb}
use Rattle.monitor.specs.declared.commands.Verb.TheVariants as verb
use Rattle.monitor.specs.declared.commands.Command.{Command}
use Rattle.monitor.specs.declared.commands.Command.TheVariants as command
use Rattle.monitor.specs.Words.{Parts, split_of}
use Rattle.monitor.specs.Numbers.{number_of}
use Rattle.monitor.specs.Arguments.{one_number, two_numbers}

-- what a command says: as the command, but with the bytes that its texts have
pub data Said : Type 0 where
  nothing : Said
  unknown : Said
  text : ℕ → Said
  word : List ℕ → Said
  list : List ℕ → Said
  flat_memory : ℕ → Said
  split_memory : ℕ → ℕ → Said
  split_memory_over : List ℕ → ℕ → Said
  load : List ℕ → Said
  bytes : ℕ → ℕ → Said
  reset : Said
  step : Said
  run : ℕ → Said
  user_run : ℕ → Said
  raise : ℕ → Said
  drive : ℕ → ℕ → Said
  register : ℕ → Said
  system_register : ℕ → Said
  pc : Said
  output : ℕ → Said
  state : Said
  pair : List ℕ → Said

abbrev pub said : Command → Said
said command.Nothing = nothing
said command.Unknown = unknown
said (command.Text w) = text w
said (command.Word t) = word t.now
said (command.List f) = list f.now
said (command.FlatMemory n) = flat_memory n
said (command.SplitMemory r w) = split_memory r w
said (command.SplitMemoryOver f w) = split_memory_over f.now w
said (command.Load f) = load f.now
said (command.Bytes a n) = bytes a n
said command.Reset = reset
said command.Step = step
said (command.Run n) = run n
said (command.UserRun n) = user_run n
said (command.Raise l) = raise l
said (command.Drive p w) = drive p w
said (command.Register n) = register n
said (command.SystemRegister n) = system_register n
said command.Pc = pc
said (command.Output p) = output p
said command.State = state
said (command.Pair f) = pair f.now

-- the table of commands
abbrev row : String → Verb → Named Verb
row name v = record { name = filled (codes name); value = v }

abbrev pub command_rows : List (Named Verb)
command_rows =
    row "text" verb.Text
    ∷ row "word" verb.Word
    ∷ row "list" verb.List
    ∷ row "memory" verb.Memory
    ∷ row "load" verb.Load
    ∷ row "bytes" verb.Bytes
    ∷ row "reset" verb.Reset
    ∷ row "step" verb.Step
    ∷ row "run" verb.Run
    ∷ row "user-run" verb.UserRun
    ∷ row "raise" verb.Raise
    ∷ row "drive" verb.Drive
    ∷ row "reg" verb.Reg
    ∷ row "sys" verb.Sys
    ∷ row "pc" verb.Pc
    ∷ row "out" verb.Out
    ∷ row "state" verb.State
    ∷ row "pair" verb.Pair
    ∷ []

-- what a name stands for
abbrev pub verb_of : List ℕ → Option Verb
verb_of name = named command_rows name

-- a split memory: its first area is given by its size or by a file
abbrev pub area_over : ℕ → Option ℕ → List ℕ → Said
area_over plain (Some fixed) file = split_memory fixed plain
area_over plain None file = split_memory_over file plain

abbrev pub area_in : Parts → Option Said
area_in words = option_map (λ plain. area_over plain (number_of words.word 4294967295) words.word) (one_number words.rest 4294967295)

abbrev pub area_of : List ℕ → Option Said
area_of line = area_in (split_of line)

abbrev pub memory_in : Parts → Option Said
memory_in words =
    if bytes_eq words.word (codes "flat") then option_map flat_memory (one_number words.rest 4294967295)
    else if bytes_eq words.word (codes "split") then option_and_then area_of words.rest
    else None

abbrev pub memory_of : List ℕ → Option Said
memory_of line = memory_in (split_of line)

-- a command that takes nothing
abbrev pub alone : Option (List ℕ) → Said → Option Said
alone rest s = then_some (is_none rest) s

-- the command with what stands behind its name
abbrev pub taken_of : Verb → Option (List ℕ) → Option Said
taken_of verb.Text rest = option_map text (one_number rest 65535)
taken_of verb.Word rest = option_map word rest
taken_of verb.List rest = option_map list rest
taken_of verb.Load rest = option_map load rest
taken_of verb.Memory rest = option_and_then memory_of rest
taken_of verb.Bytes rest = option_map (λ p. bytes p.0 p.1) (two_numbers rest 4294967295 65536)
taken_of verb.Reset rest = alone rest reset
taken_of verb.Step rest = alone rest step
taken_of verb.Run rest = option_map run (one_number rest 4294967295)
taken_of verb.UserRun rest = option_map user_run (one_number rest 4294967295)
taken_of verb.Raise rest = option_map raise (one_number rest 4294967295)
taken_of verb.Drive rest = option_map (λ p. drive p.0 p.1) (two_numbers rest 4294967295 65535)
taken_of verb.Reg rest = option_map register (one_number rest 4294967295)
taken_of verb.Sys rest = option_map system_register (one_number rest 4294967295)
taken_of verb.Pc rest = alone rest pc
taken_of verb.Out rest = option_map output (one_number rest 4294967295)
taken_of verb.State rest = alone rest state
taken_of verb.Pair rest = option_map pair rest

-- blank lines and comments are passed over
abbrev pub is_blank : List ℕ → Bool
is_blank line = list_all (λ c. c == 32) line

abbrev pub passed_over : List ℕ → Bool
passed_over line = is_blank line || slice_index line 0 == 35

-- the command that the first word stands for, if what it takes stands behind it
abbrev pub command_named : Parts → Option Said
command_named words = option_and_then (λ (v : Verb). taken_of v words.rest) (verb_of words.word)

abbrev pub command_in : Parts → Said
command_in words = unwrap_or (command_named words) unknown

abbrev pub command_of : List ℕ → Said
command_of line = if passed_over line then nothing else command_in (split_of line)
