use Rattle.std.proofs.Common.{◌≡◌, ◌+◌, ◌-◌, ◌*◌, ◌%◌, ◌/◌, ◌^◌, ◌∙◌, ap, get_or, drop, sym, subst, arith, Some}
use Rattle.std.proofs.lemmas.List.{drop_all}
use Rattle.ga_node.specs.inner.Packed.{unpacked_place_value, spare, IsPackedWord}
use Rattle.ga_node.proofs.Packing.{words_at, pair_of_six, seventh_is, spare_past, spare_part}
use Rattle.ga_node.proofs.saved.Saved.word.Goals.{After-shared_slice_known-in-loop-k-1, After-loop-k}
use Rattle.ga_node.proofs.saved.Saved.word.Goals as goal

pub returns-then-i-len-clause-pair : goal.returns-then-i-len-clause-pair
returns-then-i-len-clause-pair c =
    let l = c.if-i-len.true in
    let value = c.len.ensures.value in
    rw c.deref.ensures.0 (pair_of_six c.self.inside.words.items c.args.self.now c.args.i c.self.view_is (omega (arith, l, value)))

pub returns-then-i-len-clause-word : goal.returns-then-i-len-clause-word
returns-then-i-len-clause-word c =
    let l = c.if-i-len.true in
    let value = c.len.ensures.value in
    rw c.deref.ensures.0 (words_at c.self.inside.words.items c.args.i c.self.invariant.words (omega (arith, l, value)))

pub loop-k-init : goal.loop-k-init
loop-k-init c =
    let six = (seventh_is c.self.inside.words.items c.args.self.now c.args.i c.len.result c.self.invariant c.self.view_is c.len.ensures.value c.len.ensures.fits c.if-i-len.false c.requires).0 in
    sym (ap spare (drop_all 6 c.self.inside.words.items (omega (arith, six))))

pub overflow_mul-spare : goal.overflow_mul-spare
overflow_mul-spare c =
    let ws = c.self.inside.words.items in
    let small = (seventh_is c.self.inside.words.items c.args.self.now c.args.i c.len.result c.self.invariant c.self.view_is c.len.ensures.value c.len.ensures.fits c.if-i-len.false c.requires).2.0 in
    let is : c.loop-k.spare ≡ spare (drop (6 - c.loop-k.k) ws) = c.loop-k.invariant in
    let part = spare_part ws (6 - c.loop-k.k) in
    omega (arith, is, part, small)

-- one digit more
more : (c : After-shared_slice_known-in-loop-k-1) → c.loop-k.spare * 64 + get_or c.deref-in-loop-k.result.now (5 - c.loop-k.k) 0 / 262144 % 64 ≡ spare (drop (5 - c.loop-k.k) c.self.inside.words.items)
more c =
    let ws = c.self.inside.words.items in
    let six = (seventh_is c.self.inside.words.items c.args.self.now c.args.i c.len.result c.self.invariant c.self.view_is c.len.ensures.value c.len.ensures.fits c.if-i-len.false c.requires).0 in
    let test = c.loop-k-test.true in
    let after : 6 - c.loop-k.k ≡ 5 - c.loop-k.k + 1 = omega (arith, test) in
    let so_far : c.loop-k.spare ≡ spare (drop (5 - c.loop-k.k + 1) ws) = rw after at c.loop-k.invariant in
    let past = spare_past ws (5 - c.loop-k.k) (omega (arith, six)) in
    rw c.deref-in-loop-k.ensures.0 (omega (arith, so_far, past))

pub overflow_add-spare : goal.overflow_add-spare
overflow_add-spare c =
    let is = more c in
    let small = (seventh_is c.self.inside.words.items c.args.self.now c.args.i c.len.result c.self.invariant c.self.view_is c.len.ensures.value c.len.ensures.fits c.if-i-len.false c.requires).2.0 in
    let part = spare_part c.self.inside.words.items (5 - c.loop-k.k) in
    omega (arith, is, part, small)

pub loop-k-preserved : goal.loop-k-preserved
loop-k-preserved c = more c ∙ ap (λ k. spare (drop k c.self.inside.words.items)) (omega arith)

-- all six digits
all : (c : After-loop-k) → c.loop-k.spare ≡ spare c.self.inside.words.items
all c =
    let test = c.loop-k-test.false in
    let none : 6 - c.loop-k.k ≡ 0 = omega (arith, test) in
    c.loop-k.invariant ∙ ap (λ k. spare (drop k c.self.inside.words.items)) none

pub overflow_sub-result : goal.overflow_sub-result
overflow_sub-result c =
    let least = (seventh_is c.self.inside.words.items c.args.self.now c.args.i c.len.result c.self.invariant c.self.view_is c.len.ensures.value c.len.ensures.fits c.if-i-len.false c.requires).1 in
    let is = all c in
    omega (arith, least, is)

pub returns-clause-pair : goal.returns-clause-pair
returns-clause-pair c =
    (seventh_is c.self.inside.words.items c.args.self.now c.args.i c.len.result c.self.invariant c.self.view_is c.len.ensures.value c.len.ensures.fits c.if-i-len.false c.requires).3
    ∙ ap (λ z. Some (unpacked_place_value (z - 2 ^ 32))) (sym (all c))

pub returns-clause-word : goal.returns-clause-word
returns-clause-word c =
    subst (λ z. IsPackedWord (z - 2 ^ 32)) (sym (all c)) (seventh_is c.self.inside.words.items c.args.self.now c.args.i c.len.result c.self.invariant c.self.view_is c.len.ensures.value c.len.ensures.fits c.if-i-len.false c.requires).2
