use Rattle.std.proofs.Common.{◌≡◌, ◌+◌, ◌∙◌, length, map, sym, ap, subst, arith}
use Rattle.std.specs.Prelude.{slice_get}
use Rattle.std.proofs.lemmas.List.{length-map}
use Rattle.ga_journal.specs.inner.Histories.{HeldNodeHistory, IsPastNewestLook}
use Rattle.ga_journal.specs.inner.Stored.{entry_record_of_entry, newest_look_end_before}
use Rattle.ga_journal.proofs.Storing.{numbered_below}
use Rattle.ga_journal.proofs.Looking.{past_at, past_end, none_first}
use Rattle.ga_journal.proofs.history.History.looked_by.Goals as goal

pub returns-then-at-len : goal.returns-then-at-len
returns-then-at-len c =
    let es = c.self.inside.entries.items in
    let ps = c.self.inside.passes.items in
    let long : length c.args.self.now.items ≡ length es = ap (λ (h : HeldNodeHistory). length h.items) (sym c.self.view_is) ∙ length-map es (entry_record_of_entry ps) in
    let all : IsPastNewestLook (map (entry_record_of_entry ps) es) (0 + length es) c.self.inside.looked =
    past_end (map (entry_record_of_entry ps) es) ps 0 0 c.self.inside.looked es (λ j. ap (slice_get (map (entry_record_of_entry ps) es)) (let q : 0 + j ≡ j = omega arith in q)) (none_first (map (entry_record_of_entry ps) es)) c.self.invariant.looks in
    subst (λ (h : HeldNodeHistory). IsPastNewestLook h.items c.args.mark c.self.inside.looked) c.self.view_is
    (subst (λ z. IsPastNewestLook (map (entry_record_of_entry ps) es) z c.self.inside.looked) (let q : 0 + length es ≡ c.args.mark = omega (arith, long, c.if-at-len.true, c.len.ensures) in q) all)

pub looked_before-requires : goal.looked_before-requires
looked_before-requires c =
    let es = c.self.inside.entries.items in
    let ps = c.self.inside.passes.items in
    let long : length c.args.self.now.items ≡ length es = ap (λ (h : HeldNodeHistory). length h.items) (sym c.self.view_is) ∙ length-map es (entry_record_of_entry ps) in
    numbered_below 0 (length ps) c.args.mark es c.index-entry.result.now c.self.invariant.numbered (omega (arith, long, c.if-at-len.false, c.len.ensures, c.requires)) c.index-entry.ensures

pub returns : goal.returns
returns c =
    let es = c.self.inside.entries.items in
    let ps = c.self.inside.passes.items in
    let e = c.index-entry.result.now in
    let long : length c.args.self.now.items ≡ length es = ap (λ (h : HeldNodeHistory). length h.items) (sym c.self.view_is) ∙ length-map es (entry_record_of_entry ps) in
    let at : IsPastNewestLook (map (entry_record_of_entry ps) es) (0 + c.args.mark) (newest_look_end_before ps e.part e.place) =
    past_at (map (entry_record_of_entry ps) es) ps 0 0 c.self.inside.looked es c.args.mark e (λ j. ap (slice_get (map (entry_record_of_entry ps) es)) (let q : 0 + j ≡ j = omega arith in q)) (none_first (map (entry_record_of_entry ps) es)) c.self.invariant.looks
    (omega (arith, long, c.if-at-len.false, c.len.ensures, c.requires)) c.index-entry.ensures in
    subst (λ (h : HeldNodeHistory). IsPastNewestLook h.items c.args.mark c.looked_before.result) c.self.view_is
    (subst (λ z. IsPastNewestLook (map (entry_record_of_entry ps) es) c.args.mark z) (sym c.looked_before.ensures)
    (subst (λ z. IsPastNewestLook (map (entry_record_of_entry ps) es) z (newest_look_end_before ps e.part e.place)) (let q : 0 + c.args.mark ≡ c.args.mark = omega arith in q) at))
