-- The first line of a listing.
use Rattle.std.proofs.Common.{◌≡◌, ℕ, zero, suc, ◌<◌, Bool, true, false, List, [], ◌∷◌, ◌++◌, length, Some, refl, sym, ◌∙◌, ap, subst, arith}
use Rattle.std.specs.Prelude.{option_map, option_to_list}
use Rattle.std.specs.List.{slice_get}
use Rattle.std.proofs.lemmas.Option.{none-some}
use Rattle.std.proofs.lemmas.Bool.{both_ways}
use Rattle.ga_lab.specs.Machine.{MachineState}
use Rattle.ga_provenance.specs.declared.value.PartValue.{PartValue}
use Rattle.ga_provenance.specs.declared.lines.ProvenanceLine.{ProvenanceLine}
use Rattle.ga_provenance.specs.Origins.{origin_of_value}
use Rattle.ga_provenance.specs.Lines.{is_value_listed, provenance_line_of_use, next_unlisted_use, first_provenance_lines, AreProvenanceLinesOf}
use Rattle.ga_provenance.proofs.Whole.{queried_listed}

-- the first line is that of the step that made the value
pub record HasFirst (s : MachineState) (value : PartValue) (lines : List ProvenanceLine) : Type 0 where
  pub line : ProvenanceLine
  pub first : slice_get lines 0 ≡ Some line
  pub made : line.value ≡ origin_of_value s value

first_of : (s : MachineState) (value : PartValue) (count : ℕ) → HasFirst s value (first_provenance_lines s value (suc count))
first_of s value zero = record { line = provenance_line_of_use s [] (record { user = 0; used = value }); first = refl; made = refl }
first_of s value (suc count) = go (first_of s value count)
  where
    stays : (lines more : List ProvenanceLine) (line : ProvenanceLine) → slice_get lines 0 ≡ Some line → slice_get (lines ++ more) 0 ≡ Some line
    stays [] more line is = absurd (none-some line is)
    stays (x ∷ lines) more line is = is

    go : HasFirst s value (first_provenance_lines s value (suc count)) → HasFirst s value (first_provenance_lines s value (suc (suc count)))
    go has = record {
      line = has.line;
      first = stays (first_provenance_lines s value (suc count)) (option_to_list (option_map (provenance_line_of_use s (first_provenance_lines s value (suc count))) (next_unlisted_use s value (first_provenance_lines s value (suc count))))) has.line has.first;
      made = has.made;
    }

pub first_line : (s : MachineState) (value : PartValue) (lines : List ProvenanceLine) (whole : Bool) (most : ℕ) → AreProvenanceLinesOf s value lines whole → (whole ≡ false → length lines ≡ most) → 0 < most → HasFirst s value lines
first_line s value lines whole most are cut some = go (length lines) refl
  where
    none : (b : Bool) → whole ≡ b → length lines ≡ 0 → ⊥
    none true is e =
        let empty : lines ≡ [] = are.first ∙ ap (first_provenance_lines s value) e in
        let listed = queried_listed s value lines (subst (AreProvenanceLinesOf s value lines) is are) in
        both_ways (is_value_listed lines (origin_of_value s value)) (ap (λ (z : List ProvenanceLine). is_value_listed z (origin_of_value s value)) empty) listed
    none false is e = let l = cut is in omega (arith, l, e, some)

    go : (n : ℕ) → length lines ≡ n → HasFirst s value lines
    go zero e = absurd (none whole refl e)
    go (suc n) e = subst (HasFirst s value) (sym (are.first ∙ ap (first_provenance_lines s value) e)) (first_of s value n)
