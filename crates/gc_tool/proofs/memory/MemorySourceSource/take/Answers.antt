use Rattle.std.proofs.Common.{◌≡◌, ℕ, ◌+◌, ◌<◌, ◌≤◌, min, List, [], ◌++◌, length, take, drop, sym, ◌∙◌, ap, arith}
use Rattle.std.proofs.lemmas.List.{take_at, drop-drop, take-append-drop, length-take, length-drop, length-append, nil_from_length, take_rest}
use Rattle.gc_tool.proofs.memory.MemorySourceSource.take.Goals as goal

-- the bytes that are copied, and those after them, were left before
given_and_left : (bytes copied buffer : List ℕ) (given count : ℕ) → copied ≡ take count (drop given bytes) → count ≤ length (drop given bytes) → drop given bytes ≡ take count (copied ++ buffer) ++ drop (given + count) bytes
given_and_left bytes copied buffer given count is fits =
    let long : length copied ≡ count = ap length is ∙ (length-take count (drop given bytes) ∙ omega arith) in
    rw (take_at copied buffer count long, is, ← drop-drop count given bytes) (sym (take-append-drop count (drop given bytes)))

-- no byte for a buffer that has room is the end
none_left : (bytes : List ℕ) (given count piece room : ℕ) → count ≡ min (min piece room) (length (drop given bytes)) → 1 ≤ piece → 0 < room → count ≡ 0 → drop (given + count) bytes ≡ []
none_left bytes given count piece room is some room_is none =
    nil_from_length (drop (given + count) bytes) (omega (arith, length-drop (given + count) bytes, length-drop given bytes))

pub returns-clause-bytes : goal.returns-clause-bytes
returns-clause-bytes c =
    let a = c.self.inside in
    let count = c.min-count.result in
    let rest = take_rest a.bytes.items a.given in
    let copied : c.copy_from_slice.new.self ≡ take count (drop a.given a.bytes.items) = rw c.deref-2.ensures.value at c.copy_from_slice.ensures.after ∙ ap (take count) rest in
    let chosen : count ≡ min (min a.piece (length c.args.buffer.now)) (length (drop a.given a.bytes.items)) =
    rw c.deref-2.ensures.value at c.min-count.ensures ∙ (ap (λ xs. min c.min.result (length xs)) rest ∙ ap (λ n. min n (length (drop a.given a.bytes.items))) c.min.ensures) in
    let left : c.args.self.now.left ≡ drop a.given a.bytes.items = sym (ap (λ v. v.left) c.self.view_is) in (
      left ∙ given_and_left a.bytes.items c.copy_from_slice.new.self (drop count c.args.buffer.now) a.given count copied (omega (arith, chosen)),
      λ none room. none_left a.bytes.items a.given count a.piece (length c.args.buffer.now) chosen c.self.invariant.1 (omega (arith, length-append c.copy_from_slice.new.self (drop count c.args.buffer.now), length-drop count c.args.buffer.now, ap length copied, length-take count (drop a.given a.bytes.items), chosen)) none,
    )
