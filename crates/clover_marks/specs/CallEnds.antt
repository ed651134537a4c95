-- What a read, a write and an exchange end with, by what the call ends with.
use Rattle.std.specs.Prelude.{Option, Some, None}
use Rattle.barriers.specs.declared.ends.TryRefusal.TheVariants.{NoField}
use Rattle.barriers.specs.declared.ends.ReadEnd.{ReadEnd}
use Rattle.barriers.specs.declared.ends.ReadEnd.TheVariants as read_end
use Rattle.barriers.specs.declared.ends.WriteEnd.{WriteEnd}
use Rattle.barriers.specs.declared.ends.WriteEnd.TheVariants as write_end
use Rattle.barriers.specs.declared.ends.ExchangeEnd.{ExchangeEnd}
use Rattle.barriers.specs.declared.ends.ExchangeEnd.TheVariants as exchange_end
use Rattle.clover_marks.specs.declared.call.CallEnd.{CallEnd}
use Rattle.clover_marks.specs.declared.call.CallEnd.TheVariants as call_end
use Rattle.clover_marks.specs.declared.call.CloverCall.{CloverCall}
use Rattle.clover_marks.specs.Calls.{end_of}

abbrev pub read_end_of : CallEnd → Option ReadEnd
read_end_of (call_end.Got word) = Some (read_end.Got word)
read_end_of (call_end.Refused (NoField len)) = Some (read_end.NoField len)
read_end_of end = None

abbrev pub write_end_of : CallEnd → Option WriteEnd
write_end_of call_end.Wrote = Some write_end.Wrote
write_end_of (call_end.Refused why) = Some (write_end.Refused why)
write_end_of end = None

abbrev pub exchange_end_of : CallEnd → Option ExchangeEnd
exchange_end_of call_end.Done = Some exchange_end.Done
exchange_end_of (call_end.Differs word) = Some (exchange_end.Differs word)
exchange_end_of (call_end.Refused why) = Some (exchange_end.Refused why)
exchange_end_of end = None

-- once it has ended
abbrev pub once : {E : Type 0} → (CallEnd → Option E) → Option CallEnd → Option E
once said None = None
once said (Some end) = said end

abbrev pub read_ended : CloverCall → Option ReadEnd
read_ended m = once read_end_of (end_of m)

abbrev pub write_ended : CloverCall → Option WriteEnd
write_ended m = once write_end_of (end_of m)

abbrev pub exchange_ended : CloverCall → Option ExchangeEnd
exchange_ended m = once exchange_end_of (end_of m)
