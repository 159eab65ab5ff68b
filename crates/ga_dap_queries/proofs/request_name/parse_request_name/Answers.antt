use Rattle.std.proofs.Common.{◌≡◌, ◌<◌, ◌∙◌, ap, arith}
use Rattle.ga_dap_queries.specs.Commands.{command_name}
use Rattle.ga_dap_queries.proofs.Names.{at_place}
use Rattle.ga_dap_queries.proofs.request_name.parse_request_name.Goals as goal

pub returns-clause-none : goal.returns-clause-none
returns-clause-none c = λ command e.
    let place = at_place command in
    let all : c.commands.place ≡ 25 = omega arith in
    let within : place.0 < c.commands.place = omega (arith, all, place.1) in
    c.commands.invariant place.0 within (ap command_name place.2 ∙ e)
