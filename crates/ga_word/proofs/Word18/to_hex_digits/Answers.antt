use Rattle.std.proofs.Common.{◌∙◌, refl}
use Rattle.ga_word.proofs.HexText.{hex6_of_bytes, on_ok}
use Rattle.ga_word.proofs.Word18.to_hex_digits.Goals as goal

pub returns : goal.returns
returns c =
    rw (← c.self.view_is)
    (on_ok _ (c.encode_to_slice.ensures.fits.1 refl) c.encode_to_slice.ensures.written
    ∙ hex6_of_bytes c.self.inside.bits c.self.invariant)
