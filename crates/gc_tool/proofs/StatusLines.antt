-- The line that tells of a status.
use Rattle.std.proofs.Common.{◌≡◌, ◌≢◌, ℕ, List, [], ◌∷◌, ◌++◌, Option, Result, Ok, Err, OnOk, refl, sym, ap, ◌∙◌, subst}
use Rattle.std.specs.Io.KnownBytes.{Appends}
use Rattle.gc_tool.specs.declared.status.Status.{Status}
use Rattle.gc_tool.specs.declared.status.Status.TheVariants.{Done, Usage, ReadFault, TooLong, ScriptFault, WriteFault, StepsSpent, OutOfMemory, NotBuilt}
use Rattle.gc_tool.specs.Statuses.{text_of, line_of}
use Rattle.gc_tool.proofs.Known.{Appends-append}

line_is : (status : Status) → status ≢ Done → line_of status ≡ text_of status ++ 10 ∷ []
line_is Done other = absurd (other refl)
line_is (Usage index) other = refl
line_is ReadFault other = refl
line_is TooLong other = refl
line_is (ScriptFault line kind) other = refl
line_is WriteFault other = refl
line_is (StepsSpent n) other = refl
line_is OutOfMemory other = refl
line_is NotBuilt other = refl

-- the text was given, and then the line end
pub told_line : {T E : Type 0} (r : Result T E) (status : Status) (old mid new : Option (List ℕ)) (text : List ℕ) → status ≢ Done → text ≡ text_of status → Appends old mid text → OnOk r (Appends mid new (10 ∷ [])) → OnOk r (Appends old new (line_of status))
told_line (Ok x) status old mid new text other is first second = subst (Appends old new) (ap (λ t. t ++ 10 ∷ []) is ∙ sym (line_is status other)) (Appends-append old mid new text (10 ∷ []) first second)
told_line (Err e) status old mid new text other is first second = tt
