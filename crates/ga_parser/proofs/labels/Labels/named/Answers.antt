use Rattle.std.proofs.Common.{◌∙◌, sym, false, rules}
use Rattle.ga_parser.proofs.Asking.{length_labels, number_found, number_new, names_pushed}
use Rattle.ga_parser.proofs.labels.Labels.named.Goals as goal

pub returns-in-Some-clause-number : goal.returns-in-Some-clause-number
returns-in-Some-clause-number c = number_found c.args.self.now c.args.name.now c.in-Some.label (sym c.find.ensures ∙ c.in-Some.is)

pub returns-in-Ok-clause-number : goal.returns-in-Ok-clause-number
returns-in-Ok-clause-number c =
    number_new c.args.self.now c.args.name.now _ (sym c.find.ensures ∙ c.in_default.is)
    (length_labels c.self.inside.list.items c.args.self.now c.len-label.result c.self.view_is (search rules))

pub invariant_of-self-in-Ok : goal.invariant_of-self-in-Ok
invariant_of-self-in-Ok c =
    names_pushed c.self.inside.names c.insert.new.self c.self.inside.list.items c.push.new.self.items c.args.self.now
    (record { name = c.args.name; line = c.args.line; is_marked = false }) c.len-label.result c.in-Ok.ensures.updates c.self.view_is (search rules)
    (sym c.find.ensures ∙ c.in_default.is) c.in_ok-push.ensures.items c.self.invariant
