use Rattle.std.proofs.Common.{◌≡◌, ◌+◌, length, map, nat_eq, not, ap, subst, arith}
use Rattle.std.specs.Prelude.{slice_get}
use Rattle.std.specs.Bool.{OnTrue, OnFalse}
use Rattle.std.proofs.lemmas.List.{length-map}
use Rattle.ga_journal.specs.inner.Histories.{HeldNodeHistory, IsPastNewestLook}
use Rattle.ga_journal.specs.Looks.{HasLookEntry, HasNoLookEntry}
use Rattle.ga_journal.specs.inner.Stored.{entry_record_of_entry}
use Rattle.ga_journal.proofs.Looking.{past_end, none_first, some_looked, none_looked}
use Rattle.ga_journal.proofs.history.History.has_looked.Goals as goal

pub returns-clause-yes : goal.returns-clause-yes
returns-clause-yes c =
    let es = c.self.inside.entries.items in
    let ps = c.self.inside.passes.items in
    let items = map (entry_record_of_entry ps) es in
    let all : IsPastNewestLook items (0 + length es) c.self.inside.looked = past_end items ps 0 0 c.self.inside.looked es (λ j. ap (slice_get items) (let q : 0 + j ≡ j = omega arith in q)) (none_first items) c.self.invariant.looks in
    subst (λ (h : HeldNodeHistory). OnTrue (not (nat_eq c.self.inside.looked 0)) (HasLookEntry h.items)) c.self.view_is
    (some_looked items c.self.inside.looked (subst (λ z. IsPastNewestLook items z c.self.inside.looked) (let q : 0 + length es ≡ length items = omega (arith, length-map es (entry_record_of_entry ps)) in q) all))

pub returns-clause-no : goal.returns-clause-no
returns-clause-no c =
    let es = c.self.inside.entries.items in
    let ps = c.self.inside.passes.items in
    let items = map (entry_record_of_entry ps) es in
    let all : IsPastNewestLook items (0 + length es) c.self.inside.looked = past_end items ps 0 0 c.self.inside.looked es (λ j. ap (slice_get items) (let q : 0 + j ≡ j = omega arith in q)) (none_first items) c.self.invariant.looks in
    subst (λ (h : HeldNodeHistory). OnFalse (not (nat_eq c.self.inside.looked 0)) (HasNoLookEntry h.items (length h.items))) c.self.view_is
    (none_looked items c.self.inside.looked (subst (λ z. IsPastNewestLook items z c.self.inside.looked) (let q : 0 + length es ≡ length items = omega (arith, length-map es (entry_record_of_entry ps)) in q) all))
