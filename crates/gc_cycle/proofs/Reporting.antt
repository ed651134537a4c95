-- The reports of cycles, one after another.
use Rattle.std.proofs.Common.{◌≡◌, ℕ, ◌+◌, ◌<◌, ◌⊎◌, List, [], ◌∷◌, ◌++◌, length, get_or, length-append, Option, inl, inr, sym, ap, ◌∙◌, subst, arith}
use Rattle.std.proofs.lemmas.List.{get_or_append_left, get_or-append-add}
use Rattle.space_reclaim.specs.declared.move_job.MoveJob.{MoveJob}
use Rattle.barriers.specs.declared.ends.MoveEnd.{MoveEnd}
use Rattle.cycle_journal.specs.declared.journal.CycleReport.{CycleReport}
use Rattle.cycle_journal.specs.declared.journal.MarkRow.{MarkRow}
use Rattle.gc_cycle.specs.Reports.{Reports, AreReports, jobs_in, mark_in}

module _ (moved : List (MoveJob × MoveEnd)) (marks : List MarkRow) where
  -- the report of the cycle after so many
  abbrev ReportsAt : ℕ → CycleReport → Type 0
  ReportsAt i report = Reports (i + 1) (jobs_in (i + 1) moved) (mark_in (i + 1) marks) report

  pub no_report : AreReports 0 moved marks []
  no_report = record { many = omega arith; each = λ i d within. absurd (omega (arith, within)) }

  before_or_last : (i n : ℕ) → i < n + 1 → (i < n) ⊎ (i ≡ n)
  before_or_last i n within = grind (arith, within)

  -- one more
  pub one_more : (n : ℕ) (reports : List CycleReport) (report : CycleReport) → AreReports n moved marks reports → ReportsAt n report → AreReports (n + 1) moved marks (reports ++ report ∷ [])
  one_more n reports report are tells = record {
    many = omega (arith, length-append reports (report ∷ []), are.many);
    each = λ i d within. elim (before_or_last i n (omega (arith, within, length-append reports (report ∷ []), are.many))) [
      | inl before ↦
          let inside : i < length reports = omega (arith, before, are.many) in
          subst (ReportsAt i) (sym (get_or_append_left reports (report ∷ []) d i inside)) (are.each i d inside)
      | inr last ↦
          let here : i ≡ length reports + 0 = omega (arith, last, are.many) in
          let at : get_or (reports ++ report ∷ []) i d ≡ report = ap (λ k. get_or (reports ++ report ∷ []) k d) here ∙ get_or-append-add reports (report ∷ []) 0 d in
          subst (ReportsAt i) (sym at) (subst (λ k. ReportsAt k report) (sym last) tells)
    ];
  }
