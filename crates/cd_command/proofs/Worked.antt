-- Worked cases on which the definition computes: each is proved by computing both sides.
use Rattle.std.proofs.Common.{◌≡◌, true, false, refl, codes, List, [], ◌∷◌, Some, None}
use Rattle.cd_command.specs.declared.command.Command.TheVariants.{Check, Read, Lift, Run, Make}
use Rattle.cd_command.specs.CommandLine.{Bytes, command_in}

-- the words "run"
abbrev run : List Bytes
run = codes "run" ∷ []

-- each action alone, with the usual numbers
actions_alone : (command_in (codes "check" ∷ []) ≡ Some Check) × (command_in (codes "read" ∷ []) ≡ Some Read) × (command_in (codes "lift" ∷ []) ≡ Some Lift)
    × (command_in run ≡ Some (Run 2 false)) × (command_in (codes "make" ∷ []) ≡ Some (Make 4))
actions_alone = (refl, refl, refl, refl, refl)

-- a value in a word of its own or behind `=`, the options in any place
values : (command_in (codes "--workers" ∷ codes "3" ∷ run) ≡ Some (Run 3 false)) × (command_in (codes "run" ∷ codes "--record" ∷ codes "--workers=64" ∷ []) ≡ Some (Run 64 true))
    × (command_in (codes "make" ∷ codes "--size=14" ∷ []) ≡ Some (Make 14))
values = (refl, refl, refl)

-- a missing value, and one that begins with a hyphen
no_value : (command_in (codes "run" ∷ codes "--workers" ∷ []) ≡ None) × (command_in (codes "--workers" ∷ codes "-" ∷ run) ≡ None)
    × (command_in (codes "--workers" ∷ codes "-3" ∷ run) ≡ None) × (command_in (codes "--workers" ∷ codes "--" ∷ run) ≡ None)
no_value = (refl, refl, refl, refl)

-- a first `--` is dropped, and all words behind it are positional
behind_dashes : (command_in (codes "--" ∷ run) ≡ Some (Run 2 false)) × (command_in (codes "run" ∷ codes "--" ∷ []) ≡ Some (Run 2 false))
    × (command_in (codes "run" ∷ codes "--" ∷ codes "--record" ∷ []) ≡ None) × (command_in (codes "--" ∷ codes "--" ∷ run) ≡ None)
behind_dashes = (refl, refl, refl, refl)

-- any other word with a hyphen, and shortened names
other_hyphens : (command_in (codes "-h" ∷ run) ≡ None) × (command_in (codes "--help" ∷ []) ≡ None) × (command_in (codes "--work" ∷ codes "3" ∷ run) ≡ None)
    × (command_in (codes "run" ∷ codes "--record=1" ∷ []) ≡ None)
other_hyphens = (refl, refl, refl, refl)

-- exactly one positional word, one of the five
one_word : (command_in [] ≡ None) × (command_in (codes "run" ∷ run) ≡ None) × (command_in (codes "walk" ∷ []) ≡ None)
    × (command_in ([] ∷ []) ≡ None) × (command_in (codes "-" ∷ []) ≡ None)
one_word = (refl, refl, refl, refl, refl)

-- no option and no flag is given twice
given_twice : (command_in (codes "--record" ∷ codes "--record" ∷ run) ≡ None) × (command_in (codes "--workers=2" ∷ codes "--workers=2" ∷ run) ≡ None)
    × (command_in (codes "--size=2" ∷ codes "make" ∷ codes "--size" ∷ codes "2" ∷ []) ≡ None)
given_twice = (refl, refl, refl)

-- one to three digits, and nothing else
digits : (command_in (codes "run" ∷ codes "--workers=008" ∷ []) ≡ Some (Run 8 false)) × (command_in (codes "make" ∷ codes "--size=0014" ∷ []) ≡ None)
    × (command_in (codes "run" ∷ codes "--workers=" ∷ []) ≡ None) × (command_in (codes "run" ∷ codes "--workers=+2" ∷ []) ≡ None)
digits = (refl, refl, refl, refl)

-- the ranges of both numbers
ranges : (command_in (codes "run" ∷ codes "--workers=0" ∷ []) ≡ None) × (command_in (codes "run" ∷ codes "--workers=65" ∷ []) ≡ None)
    × (command_in (codes "make" ∷ codes "--size=0" ∷ []) ≡ None) × (command_in (codes "make" ∷ codes "--size=15" ∷ []) ≡ None)
ranges = (refl, refl, refl, refl)

-- an option stands only with its action
with_its_action : (command_in (codes "check" ∷ codes "--record" ∷ []) ≡ None) × (command_in (codes "make" ∷ codes "--workers=2" ∷ []) ≡ None)
    × (command_in (codes "lift" ∷ codes "--size=4" ∷ []) ≡ None) × (command_in (codes "run" ∷ codes "--size=4" ∷ []) ≡ None)
with_its_action = (refl, refl, refl, refl)
