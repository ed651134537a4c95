-- What is told, as lists that are kept in some form.
use Rattle.std.specs.List.{flat_map, range_with_len}
use Rattle.std.proofs.Common.{◌≡◌, ℕ, zero, suc, ◌+◌, ◌<◌, List, [], ◌∷◌, ◌++◌, length, map, get_or, refl, sym, ap, ◌∙◌, arith, append_assoc}
use Rattle.std.proofs.Math.ListN.{set}
use Rattle.std.proofs.Math.Seq.{map-set_same}
use Rattle.std.proofs.lemmas.List.{map-set, get_or-map, flat_map_more}
use Rattle.std.proofs.lemmas.List.FromFn.{map-range_with_len_more}
use Rattle.heap_script.specs.declared.answer.Answer.{Answer}

-- ---- numbers in a row

range-more : (a n j : ℕ) → a + n ≡ j → range_with_len a (n + 1) ≡ range_with_len a n ++ j ∷ []
range-more a zero j is = ap (λ k. k ∷ []) (let e : a ≡ j = omega arith in e)
range-more a (suc n) j is =
    let e : suc n + 1 ≡ suc (n + 1) = omega arith in
    let next : a + 1 + n ≡ j = omega arith in
    rw (e, range-more (a + 1) n j next) refl

-- one more after others
pub push_number : {X : Type 0} (f : ℕ → X) (first now later : List X) (n : ℕ)
    → now ≡ first ++ map f (range_with_len 1 n) → later ≡ now ++ f (n + 1) ∷ [] → later ≡ first ++ map f (range_with_len 1 (n + 1))
push_number f first now later n so_far pushed =
    let more : map f (range_with_len 1 (n + 1)) ≡ map f (range_with_len 1 n) ++ f (n + 1) ∷ [] = map-range_with_len_more f 1 n (n + 1) (omega arith) in
    rw (pushed, so_far, more, append_assoc) refl

-- one piece more
pub push_piece : {X : Type 0} (f : ℕ → List X) (now later : List X) (n : ℕ)
    → now ≡ flat_map f (range_with_len 1 n) → later ≡ now ++ f (n + 1) → later ≡ flat_map f (range_with_len 1 (n + 1))
push_piece f now later n so_far pushed =
    let more : range_with_len 1 (n + 1) ≡ range_with_len 1 n ++ (n + 1) ∷ [] = range-more 1 n (n + 1) (omega arith) in
    rw (pushed, so_far, more) (flat_map_more f [] (range_with_len 1 n) (n + 1))

-- ---- lists that are kept in some form

-- one more answer
pub answer_kept : {X : Type 0} (f : X → List Answer) (vs : List X) (i : ℕ) (v w : X) (answer : Answer)
    → i < length vs → v ≡ get_or vs i v → f w ≡ f v ++ answer ∷ []
    → map f (set vs i w) ≡ set (map f vs) i (get_or (map f vs) i [] ++ answer ∷ [])
answer_kept f vs i v w answer within here more =
    let at : get_or (map f vs) i [] ≡ f (get_or vs i v) = get_or-map f vs i v [] within in
    let same : f (get_or vs i v) ≡ f v = ap f (sym here) in
    map-set f vs i w ∙ ap (set (map f vs) i) (more ∙ ap (λ list. list ++ answer ∷ []) (sym (at ∙ same)))

-- and the rooms stay
pub room_kept : {X : Type 0} (f : X → ℕ) (vs : List X) (i : ℕ) (v w : X) → v ≡ get_or vs i v → f w ≡ f v → map f (set vs i w) ≡ map f vs
room_kept f vs i v w here same = map-set_same f vs i w v (same ∙ ap f here)
