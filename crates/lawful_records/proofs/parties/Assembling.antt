-- Lawful records from the parts of a turn.
use Rattle.barriers.specs.Protocols.{Protocol}
use Rattle.barriers.specs.States.{On}
use Rattle.barriers.proofs.objects.Base.{home_live}
use Rattle.lawful_records.specs.Fixing.{Names, FixStands, IsAside, IsFollowing, IsFixedPass, IsFixedParty, AreFixed}
use Rattle.lawful_records.specs.Frames.{Left, Same, Untagged, Born}
use Rattle.lawful_records.proofs.fixing.Frames.{NamesOn, names_left, word_names, following_stays, polled_in, fixed_leaves}
use Rattle.std.specs.Prelude.{IsPermutation}
use Rattle.std.specs.List.{All}
use Rattle.std.proofs.Common.{◌≡◌, ℕ, ◌+◌, ◌≤◌, inl, inr, List, ◌∷◌, length, get_or, sym, ◌∙◌, subst, arith}
use Rattle.std.proofs.lemmas.List.Elements.{All-cons, All-head, All-tail}
use Rattle.std.proofs.lemmas.List.Sorted.{All-permutation}
use Rattle.heap_words.specs.Layouts.{Sizes, words_of}
use Rattle.heap_history.specs.NewestFirstLaws.{Before-nil}
use Rattle.call_steps.specs.StepLaws.{reading}
use Rattle.space_reclaim.specs.Plans.{Planned}
use Rattle.barriers.specs.Spaces.{Space}
use Rattle.barriers.specs.Says.{Notices, Says}
use Rattle.barriers.specs.Rows.{Rows}
use Rattle.barriers.specs.States.{Absent}
use Rattle.barriers.specs.MoveWords.{IsSpare}
use Rattle.barriers.specs.Objects.{AreObjects, HasLens}
use Rattle.barriers.specs.Cycles.{IsMoving}
use Rattle.barriers.specs.Kits.{Kit}
use Rattle.lawful_records.specs.Collectors.{drawn_of}
use Rattle.lawful_records.specs.Cycling.{announced_by, cycle_of}
use Rattle.lawful_records.specs.Handshakes.{IsCollector}
use Rattle.lawful_records.specs.Searches.{SearchStands}
use Rattle.lawful_records.specs.Frames.{Leaves, Beside}
use Rattle.lawful_records.specs.LawfulRecords.{IsPassRecord, IsCollectorRecord, IsParty, LawfulRecords}
use Rattle.lawful_records.specs.Records.{number_of}
use Rattle.lawful_records.specs.declared.collector.CollectorMachine.{CollectorMachine}
use Rattle.lawful_records.specs.declared.records.PassKnown.{PassKnown}
use Rattle.lawful_records.specs.declared.records.CollectorKnown.{CollectorKnown}
use Rattle.lawful_records.specs.declared.records.Party.{Party}
use Rattle.lawful_records.specs.declared.records.Party.TheVariants as party
use Rattle.lawful_records.specs.JobStands.{IsMovedBy}
use Rattle.lawful_records.proofs.frames.JobStays.{leaves_same}
use Rattle.lawful_records.proofs.frames.PassStays.{beside_same, pass_stays, collector_stays}
use Rattle.lawful_records.proofs.frames.SealStays.{rests_on}
use Rattle.lawful_records.proofs.frames.SpareStays.{bare_on}
use Rattle.lawful_records.proofs.parties.Counts.{IsOther, parties_turn, parties_regroup, others_differ}
use Rattle.lawful_records.proofs.parties.Pasts.{SeesOn, sees_same, history_turn, history_regroup}

-- nothing that is on its way comes of a turn of a pass
aside_left : (P : Protocol) (l : Sizes) (s t : Space) (at : ℕ) → Left P l s t at → IsAside (t.state at) → IsAside (s.state at)
aside_left P l s t at (Same same) aside = subst IsAside same.state aside
aside_left P l s t at (Untagged makes was is seal wide) aside = absurd (subst IsAside is aside)
aside_left P l s t at (Born was is seal wide own) aside = absurd (subst IsAside is aside)

module _ {R W E M : Type 0} (kit : Kit R W E M) where
  -- ---- the small fields of the law

  pub lawful_wide : (l : Sizes) (ws : List ℕ) (rs : List (Party R W E M)) → LawfulRecords kit l ws rs → length ws ≡ words_of l
  lawful_wide l ws rs w = w.width

  pub lawful_counted : (l : Sizes) (ws : List ℕ) (rs : List (Party R W E M)) → LawfulRecords kit l ws rs → length rs ≡ l.passes + 1
  lawful_counted l ws rs w = w.parties.many

  pub lawful_regroups : (l : Sizes) (ws : List ℕ) (rs qs : List (Party R W E M)) → IsPermutation rs qs → LawfulRecords kit l ws rs → LawfulRecords kit l ws qs
  lawful_regroups l ws rs qs moves w = record {
    layout = w.layout;
    width = w.width;
    parties = parties_regroup kit l rs qs moves w.parties;
    space = w.space;
    notices = w.notices;
    collector = w.collector;
    says = w.says;
    announced = w.announced;
    drawn = w.drawn;
    spare = w.spare;
    rows = w.rows;
    bare = w.bare;
    objects = w.objects;
    lens = w.lens;
    resting = w.resting;
    history = history_regroup kit l w.space.history rs qs moves w.history;
    each = All-permutation (IsParty kit l w.collector w.space w.notices) rs qs moves w.each;
    fixed = record {
      stands = w.fixed.stands;
      each = All-permutation (IsFixedParty kit w.collector w.space w.notices) rs qs moves w.fixed.each;
    };
  }

  -- ---- a turn

  -- what a turn leaves of how far a collector's search has come
  abbrev pub KeepsSearch : Sizes → CollectorMachine M → Space → Space → Type 0
  KeepsSearch l k s t = (plan : Planned) (cycles : ℕ) → cycles ≤ 64 → IsCollector l kit.kind cycles plan k → SearchStands l (cycle_of k) s k → SearchStands l (cycle_of k) t k

  party_stays : (l : Sizes) (k : CollectorMachine M) (m : ℕ) (s t : Space) (n o : Notices) → Rows l t.state t.len t.ends t.region → Beside kit l (cycle_of k) m s t n o → Leaves kit.protocol l (cycle_of k) s t → KeepsSearch l k s t → (r : Party R W E M) → IsOther m r → IsParty kit l k s n r → IsParty kit l k t o r
  party_stays l k m s t n o rows beside leaves search (party.Pass p) other is = pass_stays kit l (announced_by k) (cycle_of k) m s t n o p other beside is
  party_stays l k m s t n o rows beside leaves search (party.Collector q) other is = collector_stays kit l k m s t n o q rows beside leaves (search q.plan is.cycles is.few is.collects) is

  -- where one pass moves, the others stay
  pub others_stay : (l : Sizes) (k : CollectorMachine M) (m : ℕ) (s t : Space) (n o : Notices) (others : List (Party R W E M)) → Rows l t.state t.len t.ends t.region → Beside kit l (cycle_of k) m s t n o → Leaves kit.protocol l (cycle_of k) s t → KeepsSearch l k s t → All (IsOther m) others → All (IsParty kit l k s n) others → All (IsParty kit l k t o) others
  others_stay l k m s t n o others rows beside leaves search other each i d within =
      party_stays l k m s t n o rows beside leaves search (get_or others i d) (other i d within) (each i d within)

  -- what is fixed of them stays so
  party_fixed : (l : Sizes) (k : CollectorMachine M) (m : ℕ) (s t : Space) (n o : Notices) → Beside kit l (cycle_of k) m s t n o → Leaves kit.protocol l (cycle_of k) s t → (r : Party R W E M) → IsOther m r → IsParty kit l k s n r → IsFixedParty kit k s n r → IsFixedParty kit k t o r
  party_fixed l k m s t n o beside leaves (party.Pass p) other is fixed =
      let names : NamesOn s t = names_left kit.protocol l s t leaves.left (λ at home. (beside.seen.heads at (home_live (s.state at) home)).birth) in
      fixed_leaves kit k k s t n o p (record {
        names = λ runs by. names;
        lets = λ runs by. by;
        polls = λ x e following. subst (λ (phase : ℕ). IsFollowing t (record (polled_in kit p o) { announced = phase }) x) (sym beside.phase)
            (subst (λ (mark : ℕ). IsFollowing t (record (polled_in kit p n) { mark = mark }) x) (sym beside.mark) (following_stays s t names (polled_in kit p n) x following));
        roots = λ retired roots i less. subst (On (Names t)) (sym (beside.roots (number_of p) i other)) (word_names s t names (n.root (number_of p) i) (fixed.roots retired roots i less));
      }) is.answering.retired fixed
  party_fixed l k m s t n o beside leaves (party.Collector q) other is fixed = λ at aside. fixed at (aside_left kit.protocol l s t at (leaves.left at) aside)

  others_fixed : (l : Sizes) (k : CollectorMachine M) (m : ℕ) (s t : Space) (n o : Notices) (others : List (Party R W E M)) → Beside kit l (cycle_of k) m s t n o → Leaves kit.protocol l (cycle_of k) s t → All (IsOther m) others → All (IsParty kit l k s n) others → All (IsFixedParty kit k s n) others → All (IsFixedParty kit k t o) others
  others_fixed l k m s t n o others beside leaves other each fixed i d within =
      party_fixed l k m s t n o beside leaves (get_or others i d) (other i d within) (each i d within) (fixed i d within)

  -- What a pass's turn makes of the space and the notices, where it was p and is q, and the words are these.
  pub record PassMoved (l : Sizes) (k : CollectorMachine M) (s : Space) (n : Notices) (p : PassKnown R W E) (words : List ℕ) (t : Space) (o : Notices) (q : PassKnown R W E) : Type 0 where
    pub width : length words ≡ words_of l
    pub says : Says l (reading words) t o
    pub spare : IsSpare l (reading words) t
    pub rows : Rows l t.state t.len t.ends t.region
    pub objects : AreObjects kit.protocol (cycle_of k) t
    pub lens : HasLens t
    pub beside : Beside kit l (cycle_of k) (number_of p) s t n o
    pub leaves : Leaves kit.protocol l (cycle_of k) s t
    pub search : KeepsSearch l k s t
    pub number : number_of q ≡ number_of p
    pub sees : SeesOn s.history t.history p.seen q.seen
    pub own : IsPassRecord kit l (announced_by k) (cycle_of k) t o q
    -- what the collector has fixed, and what is fixed of the pass
    pub stands_fixed : FixStands k t o
    pub own_fixed : IsFixedPass kit k t o q

  pub assemble_pass : (l : Sizes) (ws vs : List ℕ) (p q : PassKnown R W E) (others : List (Party R W E M)) (t : Space) (o : Notices) (w : LawfulRecords kit l ws (party.Pass p ∷ others)) → PassMoved l w.collector w.space w.notices p vs t o q → LawfulRecords kit l vs (party.Pass q ∷ others)
  assemble_pass l ws vs p q others t o w moved =
      let P : Party R W E M → Type 0 = IsParty kit l w.collector w.space w.notices in
      let Q : Party R W E M → Type 0 = IsParty kit l w.collector t o in
      let its : IsPassRecord kit l (announced_by w.collector) (cycle_of w.collector) w.space w.notices p = All-head P (party.Pass p) others w.each in
      let apart : All (IsOther (number_of p)) others = others_differ kit l p others its.number w.parties in
      record {
        layout = w.layout;
        width = moved.width;
        parties = parties_turn kit l (party.Pass p) (party.Pass q) others moved.number w.parties;
        space = t;
        notices = o;
        collector = w.collector;
        says = moved.says;
        announced = moved.beside.phase ∙ w.announced;
        drawn = moved.beside.mark ∙ w.drawn;
        spare = moved.spare;
        rows = moved.rows;
        bare = λ at. bare_on kit.protocol l w.space t at (moved.leaves.left at) (w.bare at);
        objects = moved.objects;
        lens = moved.lens;
        resting = λ at. rests_on kit.protocol l w.space t at (IsMovedBy w.collector at) (moved.leaves.left at) (w.resting at);
        history = history_turn kit l (number_of p) w.space.history t.history (party.Pass p) (party.Pass q) others moved.sees moved.beside.history (inr its.number) w.history;
        fixed = record {
          stands = moved.stands_fixed;
          each = All-cons (IsFixedParty kit w.collector t o) (party.Pass q) others moved.own_fixed
              (others_fixed l w.collector (number_of p) w.space t w.notices o others moved.beside moved.leaves apart (All-tail P (party.Pass p) others w.each)
              (All-tail (IsFixedParty kit w.collector w.space w.notices) (party.Pass p) others w.fixed.each));
        };
        each = All-cons Q (party.Pass q) others moved.own (others_stay l w.collector (number_of p) w.space t w.notices o others moved.rows moved.beside moved.leaves moved.search apart (All-tail P (party.Pass p) others w.each));
      }

  -- What the collector's turn makes of them, where its machine is then this one.
  pub record CollectorMoved (l : Sizes) (s : Space) (words : List ℕ) (k : CollectorMachine M) (t : Space) (o : Notices) (q : CollectorKnown M) (others : List (Party R W E M)) : Type 0 where
    pub width : length words ≡ words_of l
    pub says : Says l (reading words) t o
    pub announced : o.phase ≡ (let a = announced_by k in a.word)
    pub drawn : o.mark ≡ drawn_of k
    pub spare : IsSpare l (reading words) t
    pub rows : Rows l t.state t.len t.ends t.region
    pub bare : (a : ℕ) → t.state a ≡ Absent → t.wide a ≡ 0
    pub objects : AreObjects kit.protocol (cycle_of k) t
    pub lens : HasLens t
    pub resting : (a : ℕ) → IsMoving (t.state a) → IsMovedBy k a
    pub history : t.history ≡ s.history
    pub own : IsCollectorRecord kit l k t q
    pub each : All (IsParty kit l k t o) others
    pub fixed : AreFixed kit k t o (party.Collector q ∷ others)

  pub assemble_collector : (l : Sizes) (ws vs : List ℕ) (p q : CollectorKnown M) (others : List (Party R W E M)) (k : CollectorMachine M) (t : Space) (o : Notices) (w : LawfulRecords kit l ws (party.Collector p ∷ others)) → CollectorMoved l w.space vs k t o q others → LawfulRecords kit l vs (party.Collector q ∷ others)
  assemble_collector l ws vs p q others k t o w moved = record {
    layout = w.layout;
    width = moved.width;
    parties = parties_turn kit l (party.Collector p) (party.Collector q) others tt w.parties;
    space = t;
    notices = o;
    collector = k;
    says = moved.says;
    announced = moved.announced;
    drawn = moved.drawn;
    spare = moved.spare;
    rows = moved.rows;
    bare = moved.bare;
    objects = moved.objects;
    lens = moved.lens;
    resting = moved.resting;
    history = history_turn kit l 0 w.space.history t.history (party.Collector p) (party.Collector q) others (record { past = Before-nil t.history; later = omega arith; shows = inl moved.history }) (inl moved.history) (inl moved.history) w.history;
    each = All-cons (IsParty kit l k t o) (party.Collector q) others moved.own moved.each;
    fixed = moved.fixed;
  }

  -- ---- what a pass does without a step

  pub record PassBegun (l : Sizes) (k : CollectorMachine M) (s : Space) (n : Notices) (p q : PassKnown R W E) : Type 0 where
    pub number : number_of q ≡ number_of p
    pub seen : q.seen ≡ p.seen
    pub own : IsPassRecord kit l (announced_by k) (cycle_of k) s n q
    pub fixed : IsFixedPass kit k s n q

  pub assemble_begun : (l : Sizes) (ws : List ℕ) (p q : PassKnown R W E) (others : List (Party R W E M)) (w : LawfulRecords kit l ws (party.Pass p ∷ others)) → PassBegun l w.collector w.space w.notices p q → LawfulRecords kit l ws (party.Pass q ∷ others)
  assemble_begun l ws p q others w begun =
      let P : Party R W E M → Type 0 = IsParty kit l w.collector w.space w.notices in
      let its : IsPassRecord kit l (announced_by w.collector) (cycle_of w.collector) w.space w.notices p = All-head P (party.Pass p) others w.each in
      assemble_pass l ws ws p q others w.space w.notices w (record {
        width = w.width;
        says = w.says;
        spare = w.spare;
        rows = w.rows;
        objects = w.objects;
        lens = w.lens;
        beside = beside_same kit l (cycle_of w.collector) (number_of p) w.space w.notices;
        leaves = leaves_same kit.protocol l (cycle_of w.collector) w.space;
        search = λ plan cycles few collects stands. stands;
        number = begun.number;
        sees = subst (SeesOn w.space.history w.space.history p.seen) (sym begun.seen) (sees_same w.space.history p.seen its.side.past);
        own = begun.own;
        stands_fixed = w.fixed.stands;
        own_fixed = begun.fixed;
      })
