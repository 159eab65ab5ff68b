use Rattle.ga_dap_queries.proofs.References.{refers, refers_nowhere}
use Rattle.ga_dap_queries.proofs.disassembling.resolve_memory_reference.Goals as goal

pub returns-in-Some : goal.returns-in-Some
returns-in-Some c =
    refers c.args.reference.now c.in-Some.address c.cell_at_chip_address.result c.in-Some.ensures.found c.cell_at_chip_address.ensures.found c.cell_at_chip_address.ensures.none

pub returns-in-None : goal.returns-in-None
returns-in-None c = refers_nowhere c.args.reference.now c.in-None.ensures.none
