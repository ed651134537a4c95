-- What is known of a stage before which the collector works on its plan.
use Rattle.std.specs.Prelude.{◌&&◌, not, ◌<◌}
use Rattle.std.proofs.Common.{◌≡◌, ℕ, ◌==◌, Bool, true, false, refl, ap, ◌∙◌, subst, arith}
use Rattle.std.proofs.lemmas.Bool.Decides.{nat_tests}
use Rattle.heap_words.specs.Layouts.{Sizes}
use Rattle.object_headers.specs.declared.change.Kind.{Kind}
use Rattle.object_headers.specs.Changes.{is_clover}
use Rattle.mark_search.specs.DrawLaws.{last_some}
use Rattle.barriers.specs.Cycles.{Everybody, IsSet}
use Rattle.barriers.specs.Stances.{mark_in}
use Rattle.lawful_records.specs.declared.stage.Announcement.{Announcement}
use Rattle.lawful_records.specs.declared.stage.Announcement.TheVariants.{Copy, Fix}
use Rattle.lawful_records.specs.declared.stage.Stage.{Stage}
use Rattle.lawful_records.specs.Collectors.{mark_word, is_planned, is_refused}
use Rattle.lawful_records.specs.Cycling.{told_before, told_until, clear_before, clear_until}
use Rattle.lawful_records.specs.Handshakes.{HasDrawn, IsMarked, IsStage, work_before, IsWork}

-- a mark other than 0 is one
mark_set : (mark : ℕ) → 0 < mark → IsSet (mark_in mark)
mark_set mark some = let counted : (mark == 0) ≡ false = grind (arith, nat_tests, some) in rw counted tt

module _ (kind : Kind) (l : Sizes) where
  -- all have acknowledged the last Copy word, and where a mark is sought the search ended clear
  pub record MovesNow (x : Stage) : Type 0 where
    pub layout : x.layout ≡ l
    pub fix : x.announcement ≡ Fix
    pub told : told_until x ≡ Everybody
    pub marked : is_clover kind ≡ true → (clear_until x ≡ true) × IsSet (mark_in (mark_word x))

  -- the regions of the plan get their words
  pub record WorksNow (x : Stage) : Type 0 where
    pub layout : x.layout ≡ l
    pub kind_is : x.kind ≡ kind
    pub has : is_planned x ≡ true
    pub tags : is_clover kind ≡ false → x.announcement ≡ Copy
    pub moves : is_clover kind ≡ true → MovesNow x

  told_by : (x : Stage) (b : Bool) → is_clover x.kind ≡ b → (b ≡ true → x.marks.clear ≡ true) → told_before Fix (is_clover x.kind && not x.marks.clear) ≡ Everybody
  told_by x true e clear = rw (e, clear refl) refl
  told_by x false e clear = rw e refl

  module _ (cycles : ℕ) (x : Stage) (is : IsStage l kind cycles x) where
    drawn_by : is_clover kind ≡ true → IsMarked (is_clover kind) Fix x.cycle x.marks → HasDrawn x.cycle x.marks
    drawn_by seeks marked = (rw seeks at marked).0

    pub moves_now : x.announcement ≡ Fix → (is_clover kind ≡ true → x.marks.clear ≡ true) → MovesNow x
    moves_now fix clear = record {
      layout = is.layout;
      fix = fix;
      told = ap (λ (a : Announcement). told_before a (is_refused x)) fix ∙ told_by x (is_clover kind) (ap is_clover is.kind_is) clear;
      marked = λ seeks. (ap (λ (a : Announcement). clear_before a x.marks.clear) fix ∙ clear seeks, set seeks);
    }
      where
        set : is_clover kind ≡ true → IsSet (mark_in (mark_word x))
        set seeks =
            let drawn = drawn_by seeks (subst (λ (a : Announcement). IsMarked (is_clover kind) a x.cycle x.marks) fix is.marked) in
            mark_set (mark_word x) (last_some x.marks.candidates (omega (arith, drawn.first, drawn.some)))

  pub works_now : (cycles : ℕ) (x : Stage) → IsWork l kind cycles (work_before kind) x → WorksNow x
  works_now cycles x work = record {
    layout = work.stage.layout;
    kind_is = work.stage.kind_is;
    has = work.planned;
    tags = λ plain. work.next_is ∙ rw plain refl;
    moves = λ seeks. moves_now cycles x work.stage (work.next_is ∙ rw seeks refl) work.clear;
  }
