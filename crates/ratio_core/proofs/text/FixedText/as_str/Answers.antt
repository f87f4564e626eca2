use Rattle.std.proofs.Common.{drop, length, ◌-◌}
use Rattle.std.proofs.lemmas.Str.{IsAscii-take, IsUtf8-from_ascii}
use Rattle.ratio_core.proofs.text.FixedText.as_str.Goals as goal

pub from_utf8_unchecked-requires : goal.from_utf8_unchecked-requires
from_utf8_unchecked-requires g c =
    let fields = c.self.inside in
    IsUtf8-from_ascii _ (IsAscii-take (drop fields.start fields.bytes) (length fields.bytes - fields.start) c.self.invariant.1)
