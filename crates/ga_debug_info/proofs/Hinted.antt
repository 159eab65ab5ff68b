-- A hint in three parts.
use Rattle.std.proofs.Common.{◌≡◌, ℕ, List, ◌++◌, refl, append_assoc}
use Rattle.std.specs.Prelude.{codes}
use Rattle.std.proofs.lemmas.Grind.{flat_map-append}
use Rattle.ga_debug_info.specs.Faults.{printable_text, printable_byte_text}

pub parts_shown : (out a b c : List ℕ) → (((out ++ codes ": ") ++ printable_text a) ++ printable_text b) ++ printable_text c ≡ out ++ (codes ": " ++ printable_text (a ++ (b ++ c)))
parts_shown out a b c = simp (append_assoc, flat_map-append printable_byte_text) refl
