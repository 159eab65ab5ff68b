use Rattle.ga_json.proofs.Grammar.{string_has_no_control}
use Rattle.ga_json.proofs.laws.strings_have_no_control.Goals as goal

pub returns : goal.returns
returns c text bytes h = string_has_no_control text bytes h
