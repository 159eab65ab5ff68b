use Rattle.std.proofs.Common.{◌++◌, ap, ◌∙◌, append_assoc}
use Rattle.std.specs.Prelude.{string_bytes, codes}
use Rattle.ga_picture.proofs.text.format_svg.Goals as goal

pub returns : goal.returns
returns c =
    let front = c.in_ok-text.ensures in
    let races = string_bytes c.in_ok-races.races in
    record {
      head = front.0;
      groups = front.1;
      races = races;
      drawn = front.2;
      raced = c.in_ok-races.ensures;
      is = c.in_ok-push_str-2.ensures.bytes
          ∙ ap (λ z. z ++ codes "</svg>\n") (c.in_ok-push_str.ensures.bytes ∙ ap (λ z. string_bytes c.in_ok-text.text ++ z) c.as_str.ensures.value ∙ ap (λ z. z ++ races) front.3)
          ∙ append_assoc (front.0 ++ front.1) races (codes "</svg>\n") ∙ append_assoc front.0 front.1 (races ++ codes "</svg>\n");
    }
