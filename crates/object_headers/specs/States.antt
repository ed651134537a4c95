-- The codes of states and colours in a header word.
use Rattle.std.specs.Prelude.{ℕ, ◌==◌, if◌then◌else◌}
use Rattle.object_headers.specs.declared.header.State.{State}
use Rattle.object_headers.specs.declared.header.State.TheVariants.{Absent, Plain, Kept, Tagged, Wide, Moving, Forward, Dead}
use Rattle.object_headers.specs.declared.header.Colour.{Colour}
use Rattle.object_headers.specs.declared.header.Colour.TheVariants.{Even, Odd, Grey}

-- the code of a state
abbrev pub code_of : State → ℕ
code_of Absent = 0
code_of Plain = 1
code_of Kept = 2
code_of Tagged = 3
code_of Wide = 4
code_of Moving = 5
code_of Forward = 6
code_of Dead = 7

-- the state of a code below 8
unfoldable pub state_of : ℕ → State
state_of code =
    if code == 0 then Absent
    else (if code == 1 then Plain
    else (if code == 2 then Kept
    else (if code == 3 then Tagged
    else (if code == 4 then Wide
    else (if code == 5 then Moving
    else (if code == 6 then Forward
    else Dead))))))

-- the code of a colour
abbrev pub colour_code_of : Colour → ℕ
colour_code_of Even = 0
colour_code_of Odd = 1
colour_code_of Grey = 2

-- the colour of a code below 3
unfoldable pub colour_of : ℕ → Colour
colour_of code =
    if code == 0 then Even
    else (if code == 1 then Odd
    else Grey)
