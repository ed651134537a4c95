-- A collector's search has come as far as it had under the turns of passes, which all have its candidate as their mark.
use Rattle.std.proofs.Common.{◌≡◌, ◌≢◌, ℕ, ◌≤◌, Bool, true, false, refl, sym, ap, ◌∙◌, arith}
use Rattle.heap_words.specs.Layouts.{Sizes}
use Rattle.object_headers.specs.Changes.{is_clover}
use Rattle.handshakes.specs.declared.pass_view.PassView.{PassView}
use Rattle.handshakes.specs.PhaseWords.{retired_word}
use Rattle.space_reclaim.specs.Plans.{Planned}
use Rattle.barriers.specs.States.{IsLive}
use Rattle.barriers.specs.Stances.{Retired, stance_at, mark_in}
use Rattle.barriers.specs.Stances.{Search as Search_stance, Free as Free_stance}
use Rattle.barriers.specs.Spaces.{Space}
use Rattle.barriers.specs.Says.{Notices}
use Rattle.barriers.specs.Kits.{Kit, own_of}
use Rattle.lawful_records.specs.declared.stage.Announcement.{Announcement}
use Rattle.lawful_records.specs.declared.collector.CollectorMachine.{CollectorMachine}
use Rattle.lawful_records.specs.declared.collector.CollectorMachine.TheVariants as collector
use Rattle.lawful_records.specs.declared.records.PassKnown.{PassKnown}
use Rattle.lawful_records.specs.Collectors.{mark_word, mark_by}
use Rattle.lawful_records.specs.Cycling.{announced_by, cycle_of}
use Rattle.lawful_records.specs.Frames.{IsSameAt, Leaves, LeavesSearch}
use Rattle.lawful_records.specs.Handshakes.{IsCollector}
use Rattle.lawful_records.specs.LawfulRecords.{IsPassRecord}
use Rattle.lawful_records.specs.Records.{view_by, number_of, acked_of, mark_of, side_of}
use Rattle.lawful_records.specs.Searches.{SearchStands}
use Rattle.lawful_records.proofs.frames.SearchStays.{sought_stays}
use Rattle.lawful_records.proofs.turns.RetireTurns.{stance_retired}
use Rattle.lawful_records.proofs.collecting.Advancing.{search_clover}
use Rattle.lawful_records.proofs.collecting.Shaken.{answered_all}
use Rattle.lawful_records.proofs.collecting.Stages.{stance_by, stance_word, stage_said}

own_is : (minds : Bool) (view : PassView) → minds ≡ true → own_of minds view ≡ mark_in view.mark
own_is true view is = refl
own_is false view is = absurd (cc is)

module _ {R W E M : Type 0} (kit : Kit R W E M) (minds : kit.minds ≡ is_clover kit.kind) (l : Sizes) where
  pub search_stays : (k : CollectorMachine M) (s t : Space) (n : Notices) (p : PassKnown R W E) → Leaves kit.protocol l (cycle_of k) s t → ((at : ℕ) → IsLive (s.state at) → IsSameAt s t at) → LeavesSearch kit.kind (cycle_of k) (side_of kit p) s t
      → IsPassRecord kit l (announced_by k) (cycle_of k) s n p → (plan : Planned) (cycles : ℕ) → cycles ≤ 64 → IsCollector l kit.kind cycles plan k → SearchStands l (cycle_of k) s k → SearchStands l (cycle_of k) t k
  search_stays (collector.Seek st m) s t n p leaves heads search own plan cycles few collects is =
      sought_stays kit.protocol l (cycle_of k) s t leaves heads kit.kind (side_of kit p) search clover open_phase has_it m is
    where
      k : CollectorMachine M
      k = collector.Seek st m

      clover : is_clover kit.kind ≡ true
      clover = search_clover kit l kit.kind cycles few st collects.at

      open_phase : (let c = cycle_of k in c.phase) ≢ Free_stance
      open_phase free =
          let stance = stance_word st (stage_said l kit.kind cycles few st collects.at.stage) ∙ ap stance_by collects.at.search in
          let gone : Search_stance ≡ Free_stance = sym stance ∙ free in cc gone

      passes : st.layout.passes ≡ l.passes
      passes = ap (λ (x : Sizes). x.passes) collects.at.stage.layout

      has_it : (let side = side_of kit p in side.acked) ≢ Retired → (let side = side_of kit p in side.own) ≡ (let c = cycle_of k in c.mark)
      has_it runs =
          let running : acked_of p ≢ retired_word = λ ended. runs (ap stance_at ended ∙ stance_retired) in
          let so = answered_all l (announced_by k) (number_of p) (acked_of p) (mark_of p) own.number (omega (arith, passes)) own.answering.marked running in
          let mark : mark_of p ≡ mark_word st = so.1 ∙ ap (λ (a : Announcement). mark_by a (mark_word st)) collects.at.search in
          own_is kit.minds (view_by p.pass.machine p.pass.view) (minds ∙ clover) ∙ ap mark_in mark
  search_stays k s t n p leaves heads search own plan cycles few collects is = tt
