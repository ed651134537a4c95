-- What a collector has announced is as passes need it.
use Rattle.std.specs.Prelude.{if◌then◌else◌}
use Rattle.std.proofs.Common.{◌≡◌, ℕ, ◌-◌, ◌<◌, ◌≤◌, ◌==◌, inl, inr, Bool, true, false, Some, None, List, refl, sym, ap, ◌∙◌, subst, arith}
use Rattle.std.proofs.lemmas.Bool.Decides.{nat_tests}
use Rattle.heap_words.specs.declared.limits.TheConstants.{NUMBER_LIMIT}
use Rattle.heap_words.specs.declared.field_word.FieldWord.TheVariants.{Num}
use Rattle.heap_words.specs.Layouts.{Sizes}
use Rattle.heap_history.specs.declared.call.Call.{Call}
use Rattle.object_headers.specs.declared.change.Kind.{Kind}
use Rattle.object_headers.specs.Changes.{is_clover}
use Rattle.handshakes.specs.declared.pass_view.PassView.{PassView}
use Rattle.handshakes.specs.Handshakes.{Announced, AnswersWith}
use Rattle.space_reclaim.specs.Plans.{Planned}
use Rattle.barriers.specs.Stances.{stance_at, mark_in}
use Rattle.barriers.specs.Cycles.{Cycle, Told, Nobody, Everybody, ToldFits, Handshaken}
use Rattle.barriers.specs.Kits.{own_of}
use Rattle.lawful_records.specs.declared.stage.Announcement.{Announcement}
use Rattle.lawful_records.specs.declared.stage.Announcement.TheVariants.{Mark, Confirm, Search, Copy, Fix, Free}
use Rattle.lawful_records.specs.declared.stage.Stage.{Stage}
use Rattle.lawful_records.specs.declared.collector.CollectorMachine.{CollectorMachine}
use Rattle.lawful_records.specs.declared.collector.CollectorMachine.TheVariants as collector
use Rattle.mark_search.specs.declared.candidates.Candidates.{Candidates}
use Rattle.mark_search.specs.Draws.{candidate_at, last_of}
use Rattle.mark_search.specs.DrawLaws.{candidate_fits}
use Rattle.barriers.specs.Spaces.{is_mark}
use Rattle.lawful_records.specs.Meetings.{FitsHand}
use Rattle.lawful_records.specs.Collectors.{word_of, round_of, mark_word, mark_by, mark_at, is_refused, stage_before, drawn_of}
use Rattle.lawful_records.specs.Cycling.{announced_at, announced_by, cycle_of, told_before, told_until, clear_until}
use Rattle.lawful_records.specs.Handshakes.{IsMarked, IsStage, IsLast, IsSearch, IsCollector}
use Rattle.lawful_records.specs.PassTurns.{side_with, IsAnnounced}
use Rattle.handshakes.specs.declared.answer.AwaitMachine.TheVariants as await
use Rattle.lawful_records.proofs.collecting.Advancing.{as_announced}
use Rattle.lawful_records.proofs.collecting.Playing.{marked_free}
use Rattle.lawful_records.proofs.CollectorLaws.{runs}
use Rattle.lawful_records.proofs.collecting.Stages.{IsSaid, RoundFits, stance_by, stance_word, phase_word, ahead_of, ahead_is, stage_said, before_said}
use Rattle.lawful_records.proofs.collecting.Fitting.{told_then, unowned, own_now}
use Rattle.lawful_records.proofs.collecting.Shaken.{answered_all, current_now, current_late, until_shaken, late_shaken, now_shaken, seek_shaken, answered}

-- ---- marks are numbers, and not 0

pub mark_zero : (mark : ℕ) → is_mark (mark_in mark) (Num 0) ≡ false
mark_zero mark = grind (arith, nat_tests)

pub last_fits : (c : Candidates) → last_of c < NUMBER_LIMIT
last_fits c = by (c.drawn == 0)
  where
    by : (none : Bool) → (if none then 0 else candidate_at c.salt (c.drawn - 1)) < NUMBER_LIMIT
    by true = omega arith
    by false = candidate_fits c.salt (c.drawn - 1)

mark_by_fits : (a : Announcement) (mark : ℕ) → mark < NUMBER_LIMIT → mark_by a mark < NUMBER_LIMIT
mark_by_fits Mark mark fits = omega arith
mark_by_fits Confirm mark fits = omega arith
mark_by_fits Search mark fits = fits
mark_by_fits Copy mark fits = fits
mark_by_fits Fix mark fits = fits
mark_by_fits Free mark fits = omega arith

mark_fits : (s : Stage) → mark_at s < NUMBER_LIMIT
mark_fits s = mark_by_fits s.announcement (mark_word s) (last_fits s.marks.candidates)

own_fits : (minds : Bool) (view : PassView) → view.mark < NUMBER_LIMIT → FitsHand (own_of minds view)
own_fits true view fits = by (view.mark == 0)
  where
    by : (none : Bool) → FitsHand (if none then None else Some (Num view.mark))
    by true = tt
    by false = fits
own_fits false view fits = tt

number_of_all : (a : Announced) (minds : Bool) (view : PassView) → a.mark < NUMBER_LIMIT → a.mark_before < NUMBER_LIMIT → AnswersWith a view.pass view.acked view.mark → FitsHand (own_of minds view)
number_of_all a minds view now late answers = own_fits minds view (elim answers [
  | inl ended ↦ omega (arith, ended.1)
  | inr rest ↦ elim rest [ inl same ↦ omega (arith, same.1, now) | inr waits ↦ omega (arith, waits.2, late) ]
])

module _ (minds : Bool) (l : Sizes) (kind : Kind) (cycles : ℕ) (few : cycles ≤ 64) (same : minds ≡ is_clover kind) where
  -- with all passes passed after this stage, in a cycle with this mark word
  module _ (b : Stage) (passes : ℕ) (is : IsSaid b) (all : passes ≡ l.passes) (told : Told) (mark : ℕ) (clear : Bool) where
    abbrev a : Announced
    a = announced_at b passes

    abbrev c : Cycle
    c = record { late = true; phase = stance_at (word_of b); told = told; mark = mark_in mark; clear = clear }

    pub all_announced : ((view : PassView) (seen : List Call) → view.acked ≡ word_of b → view.mark ≡ mark_at b → Handshaken c (side_with minds view seen)) → IsAnnounced minds l a c mark
    all_announced shaken = record {
      stance = refl;
      runs = runs b.announcement b.cycle (round_of b);
      phase = phase_word b is;
      zero = mark_zero mark;
      number = λ view there answers. number_of_all (announced_at b passes) minds view (mark_fits b) (mark_fits (stage_before b)) answers;
      shaken = λ view seen there answers running. (let so = answered_all l a view.pass view.acked view.mark there (omega (arith, all)) answers running in shaken view seen so.0 so.1);
      answered = λ pass there waits. absurd (omega (arith, all, there.1, waits));
      current = λ view there answers running some. (let so = answered_all l a view.pass view.acked view.mark there (omega (arith, all)) answers running in current_now b is view.acked view.mark so.0 so.1 some);
    }

  module _ (s : Stage) (is : IsStage l kind cycles s) where
    passes : s.layout.passes ≡ l.passes
    passes = ap (λ (t : Sizes). t.passes) is.layout

    -- before it is announced
    until_announced : IsAnnounced minds l (announced_at (stage_before s) s.layout.passes) (record { late = true; phase = stance_at (word_of (stage_before s)); told = told_until s; mark = mark_in (mark_word s); clear = clear_until s }) (mark_word s)
    until_announced = all_announced (stage_before s) s.layout.passes (before_said l kind cycles few s is) passes (told_until s) (mark_word s) (clear_until s)
        (λ view seen acked mark. until_shaken minds l kind cycles few same s is view seen true (stance_at (word_of (stage_before s))) acked mark)

    free_announced : (free : Stage) → IsStage l kind cycles free → IsAnnounced minds l (announced_at (stage_before free) free.layout.passes) (record { late = true; phase = stance_at (word_of (stage_before free)); told = told_until free; mark = mark_in (mark_word free); clear = clear_until free }) (mark_word free)
    free_announced free free_is =
        all_announced (stage_before free) free.layout.passes (before_said l kind cycles few free free_is) (ap (λ (t : Sizes). t.passes) free_is.layout) (told_until free) (mark_word free) (clear_until free)
        (λ view seen acked mark. until_shaken minds l kind cycles few same free free_is view seen true (stance_at (word_of (stage_before free))) acked mark)

    await_announced : (M : Type 0) (pass : ℕ) (m : _) → IsAnnounced minds l (announced_by {M = M} (collector.Await s pass m)) (cycle_of {M = M} (collector.Await s pass m)) (mark_word s)
    await_announced M pass m = record {
      stance = refl;
      runs = runs s.announcement s.cycle (round_of s);
      phase = phase_word s (stage_said l kind cycles few s is);
      zero = mark_zero (mark_word s);
      number = λ view there answers. number_of_all (announced_at s (pass - 1)) minds view (mark_fits s) (mark_fits (stage_before s)) answers;
      shaken = λ view seen there answers running. elim answers [
        | inl ended ↦ absurd (running ended.0)
        | inr rest ↦ elim rest [
          | inl now ↦ now_shaken minds l kind cycles few same s is view seen true (stance_at (word_of s)) now.0 now.1
          | inr late ↦ late_shaken minds l kind cycles few same s is view seen true (stance_at (word_of s)) late.0 late.2
        ]
      ];
      answered = λ p there waits. answered minds l kind cycles few same s is;
      current = λ view there answers running some. elim answers [
        | inl ended ↦ absurd (running ended.0)
        | inr rest ↦ elim rest [
          | inl now ↦ current_now s (stage_said l kind cycles few s is) view.acked view.mark now.0 now.1 some
          | inr late ↦ current_late minds l kind cycles few same s is view.acked view.mark late.0 late.2 some
        ]
      ];
    }

    -- before Free is announced, after the await of Fix
    walk_announced : s.announcement ≡ Fix → IsAnnounced minds l (announced_at s s.layout.passes) (record { late = true; phase = stance_at (word_of s); told = Everybody; mark = mark_in (mark_word s); clear = s.marks.clear }) (mark_word s)
    walk_announced fix =
        let free : Stage = record s { announcement = Free } in
        let free_is : IsStage l kind cycles free = record { layout = is.layout; kind_is = is.kind_is; cycles_are = is.cycles_are; first = is.first; last = is.last; marked = marked_free (is_clover kind) s.cycle s.marks (subst (λ (a : Announcement). IsMarked (is_clover kind) a s.cycle s.marks) fix is.marked) } in
        subst (λ (b : Stage). IsAnnounced minds l (announced_at b s.layout.passes) (record { late = true; phase = stance_at (word_of b); told = Everybody; mark = mark_in (mark_word s); clear = s.marks.clear }) (mark_word s)) (as_announced s Fix fix)
        (free_announced free free_is)

  module _ (s : Stage) (is : IsSearch l kind cycles s) where
    never : (clover : Bool) → IsMarked clover s.announcement s.cycle s.marks → clover ≡ false → ⊥
    never true marked e = cc e
    never false marked e = rw is.search at marked.0

    minded : minds ≡ false → ⊥
    minded e = never (is_clover kind) is.stage.marked (sym same ∙ e)

    draw_announced : IsAnnounced minds l (announced_at (stage_before s) s.layout.passes) (record { late = true; phase = stance_at (word_of (stage_before s)); told = Nobody; mark = mark_in (mark_word (stage_before s)); clear = false }) (mark_word (stage_before s))
    draw_announced =
        let b : Stage = stage_before s in
        let b_said : IsSaid b = before_said l kind cycles few s is.stage in
        all_announced b s.layout.passes b_said (passes s is.stage) Nobody (mark_word b) false (λ view seen acked mark.
        let stands = ap stance_at acked ∙ stance_word b b_said in
        let ahead_told : ToldFits (told_before s.announcement (is_refused s)) (stance_by (ahead_of s)) = told_then s.announcement _ _ (is_refused s) in
        record {
          told = rw (stands ∙ ap stance_by (ahead_is s.announcement s)) (subst (λ (x : Announcement). ToldFits (told_before x (is_refused s)) (stance_by (ahead_of s))) is.search ahead_told);
          own = rw stands (own_now minds view (mark_word b) (λ e. absurd (minded e)) b.announcement mark);
          clear = λ clear. absurd (cc clear);
        })

    seek_announced : IsAnnounced minds l (announced_at s s.layout.passes) (record { late = true; phase = stance_at (word_of s); told = Nobody; mark = mark_in (mark_word s); clear = false }) (mark_word s)
    seek_announced = all_announced s s.layout.passes (stage_said l kind cycles few s is.stage) (passes s is.stage) Nobody (mark_word s) false
        (λ view seen acked mark. seek_shaken minds l kind cycles few same s is.stage view seen true (stance_at (word_of s)) acked mark is.search)

  done_announced : (s : Stage) → IsLast l kind cycles s → IsAnnounced minds l (announced_at s s.layout.passes) (record { late = true; phase = stance_at (word_of s); told = Nobody; mark = mark_in (mark_word s); clear = false }) (mark_word s)
  done_announced s is =
      let is_said : IsSaid s = record { small = omega (arith, few, is.last); round = subst (λ (a : Announcement). RoundFits a s.marks.round) (sym is.free) tt } in
      all_announced s s.layout.passes is_said (ap (λ (t : Sizes). t.passes) is.layout) Nobody (mark_word s) false (λ view seen acked mark.
      let stands = ap stance_at acked ∙ stance_word s is_said ∙ ap stance_by is.free in
      record {
        told = rw stands (λ told. told);
        own = rw stands (unowned minds view (mark ∙ rw is.free refl));
        clear = λ clear. absurd (cc clear);
      })

  pub announced_is : {M : Type 0} (plan : Planned) (k : CollectorMachine M) → IsCollector l kind cycles plan k → IsAnnounced minds l (announced_by k) (cycle_of k) (drawn_of k)
  announced_is plan (collector.Announce s) is = until_announced s is
  announced_is {M = M} plan (collector.Await s pass m) is = await_announced s is.stage M pass m
  announced_is plan (collector.Draw s) is = draw_announced s is
  announced_is plan (collector.Seek s m) is = seek_announced s is.at
  announced_is plan (collector.Source s region next) is = until_announced s is.0.stage
  announced_is plan (collector.Target s region next) is = until_announced s is.0.stage
  announced_is plan (collector.Tag s job next) is = until_announced s is.0.stage
  announced_is plan (collector.Move s job next m) is = until_announced s is.0.stage
  announced_is {M = M} plan (collector.Roots s pass reg m) is = await_announced s is.stage M pass (await.Acknowledgement 0 0 0)
  announced_is plan (collector.Walk s m) is = walk_announced s is.stage is.fix
  announced_is plan (collector.Done s) is = done_announced s is
