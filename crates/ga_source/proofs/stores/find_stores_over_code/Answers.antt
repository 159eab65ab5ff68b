use Rattle.std.proofs.Common.{◌≡◌, ◌∙◌, ◌+◌, ◌++◌, ℕ, List, sym, ap, drop}
use Rattle.std.proofs.lemmas.List.{drop_all, append-nil}
use Rattle.ga_parser.specs.declared.item.LocatedRequest.{LocatedRequest}
use Rattle.ga_source.specs.declared.stores.StoreOverCode.{StoreOverCode}
use Rattle.ga_source.specs.Stores.{code_line_of_each_cell, code_stores_of_requests, stores_over_code_of_program}
use Rattle.ga_source.proofs.Storing.{stores_all, store_step}
use Rattle.ga_source.proofs.stores.find_stores_over_code.Goals as goal

pub loop-asked-preserved : goal.loop-asked-preserved
loop-asked-preserved c =
    let program = c.args.program.now in
    let items = c.deref-asked-items.result.now in
    let i = c.loop-asked.asked-index in
    let known = c.loop-asked.known in
    let behind = c.behind-known.result in
    let code = c.code_line_of_each_cell-code.result in
    let before : c.loop-asked.stores.items ++ code_stores_of_requests program code known (drop i items) ≡ stores_over_code_of_program program =
    ap (λ (lines : List ℕ). c.loop-asked.stores.items ++ code_stores_of_requests program lines known (drop i items)) c.code_line_of_each_cell-code.ensures.lines
    ∙ (ap (λ (list : List LocatedRequest). c.loop-asked.stores.items ++ code_stores_of_requests program (code_line_of_each_cell program) known (drop i list)) c.deref-asked-items.ensures.value
    ∙ c.loop-asked.invariant) in
    let after : c.add_store.new.stores.items ++ code_stores_of_requests program code behind (drop (i + 1) items) ≡ stores_over_code_of_program program =
    store_step program code known behind items i _ c.loop-asked.stores.items c.add_store.new.stores.items (stores_over_code_of_program program) c.store_over_code_of_request.result c.loop-asked-test.true
    c.store_over_code_of_request.ensures c.in_ok-add_store.ensures c.behind-known.ensures before in
    ap (λ (list : List LocatedRequest). c.add_store.new.stores.items ++ code_stores_of_requests program (code_line_of_each_cell program) behind (drop (i + 1) list)) (sym c.deref-asked-items.ensures.value)
    ∙ (ap (λ (lines : List ℕ). c.add_store.new.stores.items ++ code_stores_of_requests program lines behind (drop (i + 1) items)) (sym c.code_line_of_each_cell-code.ensures.lines)
    ∙ after)

pub returns : goal.returns
returns c =
    let stores = c.loop-asked.stores.items in
    let asked = c.args.program.now.asked.items in
    sym (append-nil stores)
    ∙ (ap (λ (rest : List StoreOverCode). stores ++ rest)
    (sym (stores_all c.args.program.now (code_line_of_each_cell c.args.program.now) c.loop-asked.known (drop c.loop-asked.asked-index asked)
    (ap (drop c.loop-asked.asked-index) (sym c.deref-asked-items.ensures.value) ∙ drop_all c.loop-asked.asked-index c.deref-asked-items.result.now c.loop-asked-test.false)))
    ∙ c.loop-asked.invariant)
