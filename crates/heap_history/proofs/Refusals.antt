-- What a check that is right about the entries answers.
use Rattle.std.proofs.Common.{◌≡◌, ◌≢◌, ℕ, ◌+◌, ◌<◌, List, [], ◌∷◌, ◌++◌, length, take, get_or, ◌⊎◌, inl, inr, refl, sym, ap, ◌∙◌, Result, Ok, Err, OnOk, IfErr, IsOkUnless, IsErrOf}
use Rattle.std.proofs.lemmas.List.{take_more}
use Rattle.heap_history.specs.declared.call.Reply.{Reply}
use Rattle.heap_history.specs.declared.call.Reply.TheVariants.{NotThere}
use Rattle.heap_history.specs.declared.call.Entry.{Entry}
use Rattle.heap_history.specs.declared.check.CheckFault.{CheckFault}
use Rattle.heap_history.specs.declared.check.CheckFault.TheVariants.{BadEntry, OutOfMemory}
use Rattle.heap_history.specs.FixedHeaps.{Heap, opening, answer, after}
use Rattle.heap_history.specs.Histories.{IsAccepted, IsFirstBad, heap_after, calls}
use Rattle.heap_history.specs.HistoryLaws.{heap_after-append, calls-append, IsAccepted-append, accepted_has_no_bad, IsFirstBad-unique}
use Rattle.heap_history.specs.Faults.{Says}
use Rattle.heap_history.specs.LastWrites.{HoldsLastWrites}
use Rattle.heap_history.specs.LastWriteLaws.{last_writes}
use Rattle.heap_history.specs.Arranged.{AreLegal}
use Rattle.heap_history.specs.ShownLaws.{accepted_legal}

-- one more entry that is not bad
pub step : (es : List Entry) (i : ℕ) (d : Entry) (heap later : Heap) (wanted : Reply) → i < length es → IsAccepted opening (take i es) → heap ≡ heap_after opening (calls (take i es)) → wanted ≡ answer heap (get_or es i d).call → later ≡ after heap (get_or es i d).call → wanted ≡ (get_or es i d).reply → wanted ≢ NotThere → IsAccepted opening (take (i + 1) es) × (later ≡ heap_after opening (calls (take (i + 1) es)))
step es i d heap later wanted within accepted is told then same there =
    let e = get_or es i d in
    let more : take (i + 1) es ≡ take i es ++ e ∷ [] = take_more es i d within in
    let reply : answer (heap_after opening (calls (take i es))) e.call ≡ e.reply = sym (ap (λ h. answer h e.call) is) ∙ sym told ∙ same in (
      rw more (IsAccepted-append opening (take i es) e accepted reply (λ none. there (same ∙ none))),
      then ∙ ap (λ h. after h e.call) is ∙ sym (ap (λ front. heap_after opening (calls front)) more ∙ ap (heap_after opening) (calls-append (take i es) e) ∙ heap_after-append opening (calls (take i es)) (e.call ∷ [])),
    )

module _ {T : Type 0} where
  -- accepted entries have no fault but want of memory
  pub accepts : (es : List Entry) (result : Result T CheckFault) → IfErr result (Says es) → IsAccepted opening es → IsOkUnless result OutOfMemory
  accepts es (Ok x) bad accepted = tt
  accepts es (Err (BadEntry index wanted found)) bad accepted = absurd (accepted_has_no_bad es index wanted found accepted bad)
  accepts es (Err OutOfMemory) bad accepted = refl

  -- a first bad entry is the fault, or memory ran out
  pub refuses : (es : List Entry) (result : Result T CheckFault) → OnOk result (IsAccepted opening es) → IfErr result (Says es) → (index : ℕ) (wanted found : Reply) → IsFirstBad es index wanted found → IsErrOf result (BadEntry index wanted found) ⊎ IsErrOf result OutOfMemory
  refuses es (Ok x) ok bad index wanted found first = absurd (accepted_has_no_bad es index wanted found ok first)
  refuses es (Err (BadEntry at other reply)) ok bad index wanted found first =
      let same = IsFirstBad-unique es at index other wanted reply found bad first in
      inl (rw (same.0, same.1, same.2) refl)
  refuses es (Err OutOfMemory) ok bad index wanted found first = inr refl

  -- where the entries are accepted, fields hold what was last written
  pub holds_last : (es : List Entry) (result : Result T CheckFault) → OnOk result (IsAccepted opening es) → OnOk result (HoldsLastWrites es)
  holds_last es (Ok x) ok = last_writes es ok
  holds_last es (Err fault) ok = tt

  -- and they are a legal history
  pub are_legal : (es : List Entry) (result : Result T CheckFault) → OnOk result (IsAccepted opening es) → OnOk result (AreLegal es)
  are_legal es (Ok x) ok = accepted_legal es ok
  are_legal es (Err fault) ok = tt
