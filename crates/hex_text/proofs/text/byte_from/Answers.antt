use Rattle.hex_text.proofs.Texts.{digit_small}
use Rattle.hex_text.proofs.text.byte_from.Goals as goal

pub byte-requires : goal.byte-requires
byte-requires c = let good = c.requires.0 in (
  digit_small c.value.result good c.digit_from-high.ensures c.value.ensures.0 c.value.ensures.1,
  digit_small c.value-2.result good c.digit_from-low.ensures c.value-2.ensures.0 c.value-2.ensures.1,
)
