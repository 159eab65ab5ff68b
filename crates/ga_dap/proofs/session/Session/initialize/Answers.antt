use Rattle.std.proofs.Common.{[], ◌∷◌, refl}
use Rattle.ga_dap_queries.proofs.Sent.{sent_one}
use Rattle.ga_dap.proofs.session.Session.initialize.Goals as goal

pub returns-in-Ok : goal.returns-in-Ok
returns-in-Ok c = let told = c.in-Ok.ensures.sent in (told.0 ∷ [], (told.0, told.1, refl, refl), sent_one c.args.out.now told.0 c.respond_initialize.new.out told.2)

pub returns-in-Err : goal.returns-in-Err
returns-in-Err c = refl
