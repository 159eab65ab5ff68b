use Rattle.ga_dap_protocol.specs.declared.request.RequestError.TheVariants as fault
use Rattle.ga_dap.proofs.Turned.{content_so, declined_so}
use Rattle.ga_dap.proofs.turn.answer_content.Goals as goal

pub returns-in-Ok : goal.returns-in-Ok
returns-in-Ok g c =
    content_so g.S.ProgramFiles.gives c.args.sources.now c.answer.new.sources c.args.session.now c.answer.new.session c.args.content.now c.in-Ok.request c.args.out.now c.answer.new.out c.answer.result
    c.in-Ok.ensures.ok c.answer.ensures

pub returns-in-Err-Json : goal.returns-in-Err-Json
returns-in-Err-Json g c =
    declined_so g.S.ProgramFiles.gives c.args.sources.now c.args.session.now c.args.content.now fault.Json c.args.out.now c.decline.new.out c.decline.result (λ same. cc)
    (rw c.in-Err-Json.field-0-is at c.in-Err-Json.ensures.err) c.decline.ensures

pub returns-in-Err-WrongType : goal.returns-in-Err-WrongType
returns-in-Err-WrongType g c =
    declined_so g.S.ProgramFiles.gives c.args.sources.now c.args.session.now c.args.content.now fault.WrongType c.args.out.now c.decline-in-Err-WrongType.new.out c.decline-in-Err-WrongType.result (λ same. cc)
    (rw c.in-Err-WrongType.field-0-is at c.in-Err-WrongType.ensures.err) c.decline-in-Err-WrongType.ensures

pub returns-in-Err-Seq : goal.returns-in-Err-Seq
returns-in-Err-Seq g c =
    declined_so g.S.ProgramFiles.gives c.args.sources.now c.args.session.now c.args.content.now fault.Seq c.args.out.now c.decline-in-Err-Seq.new.out c.decline-in-Err-Seq.result (λ same. cc)
    (rw c.in-Err-Seq.field-0-is at c.in-Err-Seq.ensures.err) c.decline-in-Err-Seq.ensures

pub returns-in-Err-MissingCommand : goal.returns-in-Err-MissingCommand
returns-in-Err-MissingCommand g c =
    declined_so g.S.ProgramFiles.gives c.args.sources.now c.args.session.now c.args.content.now fault.MissingCommand c.args.out.now c.decline-in-Err-MissingCommand.new.out c.decline-in-Err-MissingCommand.result (λ same. cc)
    (rw c.in-Err-MissingCommand.field-0-is at c.in-Err-MissingCommand.ensures.err) c.decline-in-Err-MissingCommand.ensures
