-- What the end of an await says.
use Rattle.std.proofs.Common.{◌≡◌, ◌≢◌, ℕ, ◌==◌, inl, inr, refl, Bool, true, false, if◌then◌else◌}
use Rattle.std.proofs.lemmas.Bool.{eqb-true, eq-eqb}
use Rattle.handshakes.specs.declared.answer.AwaitEnd.TheVariants.{Answered, Retired, NotYet}
use Rattle.handshakes.specs.PhaseWords.{retired_word}
use Rattle.handshakes.specs.Handshakes.{Announced}
use Rattle.handshakes.specs.Awaiting.{Tells}

tells_by : (a : Announced) (pass found : ℕ) (same ended : Bool) → (found == a.word) ≡ same → (found == retired_word) ≡ ended → Tells a found (if same then Answered else (if ended then Retired else NotYet pass found))
tells_by a pass found true ended is other = eqb-true found a.word is
tells_by a pass found false true is other = eqb-true found retired_word other
tells_by a pass found false false is other = (
  refl,
  λ has. elim has [
    | inl e ↦ absurd (cc (eq-eqb found retired_word e, other))
    | inr e ↦ absurd (cc (eq-eqb found a.word e, is))
  ],
)
