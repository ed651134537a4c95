-- The codes of phases in a phase word.
use Rattle.std.specs.Prelude.{ℕ, ◌==◌, if◌then◌else◌}
use Rattle.handshakes.specs.declared.phase_word.Phase.{Phase}
use Rattle.handshakes.specs.declared.phase_word.Phase.TheVariants.{Free, Mark, Confirm, Copy, Fix, Retired}

-- the code of a phase
abbrev pub code_of : Phase → ℕ
code_of Free = 0
code_of Mark = 1
code_of Confirm = 2
code_of Copy = 3
code_of Fix = 4
code_of Retired = 5

-- the phase of a code below 6
unfoldable pub phase_of : ℕ → Phase
phase_of code =
    if code == 0 then Free
    else (if code == 1 then Mark
    else (if code == 2 then Confirm
    else (if code == 3 then Copy
    else (if code == 4 then Fix
    else Retired))))
