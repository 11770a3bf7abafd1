-- The texts of a load's answer.
use Rattle.std.specs.Prelude.{ℕ, List, [], ◌++◌, codes, decimal}
use Rattle.faults.specs.declared.LoadFault.{LoadFault}
use Rattle.faults.specs.declared.LoadFault.TheVariants.{Place}
use Rattle.faults.specs.Faults.{load_number}
use Rattle.faults.specs.Texts.{place_text}
use Rattle.loading.specs.declared.load.Loaded.{Loaded}
use Rattle.loading.specs.declared.load.LoadRefusal.{LoadRefusal}

abbrev pub loaded_text : Loaded → List ℕ
loaded_text loaded = codes "loaded " ++ decimal loaded.blocks ++ codes " " ++ decimal loaded.sum

-- The place that a block does not get follows its refusal.
abbrev pub place_behind : LoadFault → List ℕ
place_behind (Place place) = codes " " ++ place_text place
place_behind _ = []

abbrev pub refusal_text : LoadRefusal → List ℕ
refusal_text refusal =
    codes "refused " ++ decimal (load_number refusal.fault) ++ codes " offset " ++ decimal refusal.offset
    ++ codes " blocks " ++ decimal refusal.blocks ++ place_behind refusal.fault
