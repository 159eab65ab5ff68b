use Rattle.std.proofs.Common.{◌≡◌, ◌<◌, ◌-◌, ◌∙◌, ap, arith, get_or, length, sym, subst, length-set}
use Rattle.std.proofs.lemmas.List.{length-map}
use Rattle.ga_journal.specs.Histories.{JournalState, history}
use Rattle.ga_journal.specs.inner.Histories.{entry_records_of_held, entry_lists_of_histories, AreStoredHistoriesSound}
use Rattle.ga_journal.specs.Marks.{mark_of_node}
use Rattle.ga_journal.specs.inner.Marks.{has_pass_partner}
use Rattle.ga_journal.proofs.Marking.{restore_matched, some_last, restore_keeps, falls_one, falls_none}
use Rattle.ga_journal.proofs.journal.Journal.restore_last_entry.Goals as goal

pub undo_last_entry-act-requires-clause-some : goal.undo_last_entry-act-requires-clause-some
undo_last_entry-act-requires-clause-some c =
    let some = subst (λ (b : JournalState). mark_of_node b c.args.node.number < length (history b.histories c.args.node.number)) (sym c.self.view_is) c.requires.going in
    some_last (history (entry_lists_of_histories c.self.inside.histories) c.args.node.number) (get_or c.self.inside.going c.args.node.number 0) some

pub overflow_sub-self-then-not-has_pass_partner : goal.overflow_sub-self-then-not-has_pass_partner
overflow_sub-self-then-not-has_pass_partner c =
    let some = subst (λ (b : JournalState). mark_of_node b c.args.node.number < length (history b.histories c.args.node.number)) (sym c.self.view_is) c.requires.going in
    let back = c.undo_last_entry-act.ensures.back in
    let told = c.has_pass_partner.ensures ∙ ap (has_pass_partner (entry_lists_of_histories c.undo_last_entry-act.new.self)) (sym back.part) in
    let k = restore_keeps c.self.inside.histories c.undo_last_entry-act.new.self c.self.inside.top c.self.inside.made c.self.inside.kept c.self.inside.limit c.self.inside.going c.args.node.number c.index.result 1 back.entry
    c.self.invariant.keeps c.self.invariant.go_within c.self.invariant.going_size c.self.invariant.matched back.last c.undo_last_entry-act.ensures.others c.undo_last_entry-act.ensures.size c.args.node.in_range c.index.ensures.value some
    (falls_one _ back.entry _ told c.if-not-has_pass_partner.true) in
    k.2

pub invariant_of-self : goal.invariant_of-self
invariant_of-self c =
    let some = subst (λ (b : JournalState). mark_of_node b c.args.node.number < length (history b.histories c.args.node.number)) (sym c.self.view_is) c.requires.going in
    let back = c.undo_last_entry-act.ensures.back in
    let told = c.has_pass_partner.ensures ∙ ap (has_pass_partner (entry_lists_of_histories c.undo_last_entry-act.new.self)) (sym back.part) in
    let k = restore_keeps c.self.inside.histories c.undo_last_entry-act.new.self c.self.inside.top c.self.inside.made c.self.inside.kept c.self.inside.limit c.self.inside.going c.args.node.number c.index.result 1 back.entry
    c.self.invariant.keeps c.self.invariant.go_within c.self.invariant.going_size c.self.invariant.matched back.last c.undo_last_entry-act.ensures.others c.undo_last_entry-act.ensures.size c.args.node.in_range c.index.ensures.value some
    (falls_one _ back.entry _ told c.if-not-has_pass_partner.true) in
    record {
      keeps = k.0;
      go_within = k.1;
      going_size = rw length-set c.self.invariant.going_size;
      waiting_size = c.self.invariant.waiting_size;
      matched = restore_matched (entry_lists_of_histories c.self.inside.histories) (entry_lists_of_histories c.undo_last_entry-act.new.self) c.args.node.number back.entry c.self.invariant.matched
          (length-map c.undo_last_entry-act.new.self entry_records_of_held ∙ c.undo_last_entry-act.ensures.size) c.args.node.in_range back.last c.undo_last_entry-act.ensures.others;
    }

pub invariant_of-self-else-not-has_pass_partner : goal.invariant_of-self-else-not-has_pass_partner
invariant_of-self-else-not-has_pass_partner c =
    let some = subst (λ (b : JournalState). mark_of_node b c.args.node.number < length (history b.histories c.args.node.number)) (sym c.self.view_is) c.requires.going in
    let back = c.undo_last_entry-act.ensures.back in
    let told = c.has_pass_partner.ensures ∙ ap (has_pass_partner (entry_lists_of_histories c.undo_last_entry-act.new.self)) (sym back.part) in
    let k = restore_keeps c.self.inside.histories c.undo_last_entry-act.new.self c.self.inside.top c.self.inside.made c.self.inside.kept c.self.inside.limit c.self.inside.going c.args.node.number c.index.result 0 back.entry
    c.self.invariant.keeps c.self.invariant.go_within c.self.invariant.going_size c.self.invariant.matched back.last c.undo_last_entry-act.ensures.others c.undo_last_entry-act.ensures.size c.args.node.in_range c.index.ensures.value some
    (falls_none _ back.entry _ told c.if-not-has_pass_partner.false) in
    record {
      keeps = subst (λ z. AreStoredHistoriesSound c.undo_last_entry-act.new.self c.self.inside.top c.self.inside.made z c.self.inside.limit) (let q : c.self.inside.kept - 0 ≡ c.self.inside.kept = omega arith in q) k.0;
      go_within = k.1;
      going_size = rw length-set c.self.invariant.going_size;
      waiting_size = c.self.invariant.waiting_size;
      matched = restore_matched (entry_lists_of_histories c.self.inside.histories) (entry_lists_of_histories c.undo_last_entry-act.new.self) c.args.node.number back.entry c.self.invariant.matched
          (length-map c.undo_last_entry-act.new.self entry_records_of_held ∙ c.undo_last_entry-act.ensures.size) c.args.node.in_range back.last c.undo_last_entry-act.ensures.others;
    }
