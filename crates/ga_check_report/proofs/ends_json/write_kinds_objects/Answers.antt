use Rattle.std.proofs.Common.{◌+◌, drop, ap, arith}
use Rattle.std.proofs.lemmas.List.{drop_all}
use Rattle.std.proofs.Common.{[]}
use Rattle.std.specs.Prelude.{slice_index_or}
use Rattle.ga_state_ends.specs.declared.end_kind.EndKind.{EndKind}
use Rattle.ga_check_report.specs.EndJson.{end_kind_and_decision_objects, end_kinds_objects}
use Rattle.ga_check_report.proofs.ObjectsOut.{next_kind}
use Rattle.ga_json.proofs.Says.{begins, goes_on, ends, cuts}
use Rattle.ga_check_report.proofs.ends_json.write_kinds_objects.Goals as goal

-- what is in no list
abbrev nothing : EndKind
nothing = record { nodes = []; unclean = []; ends = 0; state = 0 }

pub kinds-init : goal.kinds-init
kinds-init g c = begins g.W.Write.contents c.args.writer.now (end_kinds_objects c.args.file.now c.args.found.now.decisions 0 c.args.kinds.now)

pub returns-in_err-write_kind_objects : goal.returns-in_err-write_kind_objects
returns-in_err-write_kind_objects g c =
    cuts c.from_residual.result c.write_kind_objects.new.writer (end_kind_and_decision_objects c.args.file.now (c.kinds.place + 1) (slice_index_or c.args.kinds.now c.kinds.place nothing) c.decision.result) (end_kinds_objects c.args.file.now c.args.found.now.decisions (c.kinds.place + 1) (drop (c.kinds.place + 1) c.args.kinds.now)) c.from_residual.ensures.0 c.kinds.invariant
    (next_kind c.args.file.now c.args.found.now.decisions c.args.kinds.now c.kinds.place nothing c.decision.result (omega arith) c.decision.ensures)
    c.in_err-write_kind_objects.ensures

pub kinds-preserved : goal.kinds-preserved
kinds-preserved g c =
    goes_on c.write_kind_objects.new.writer (end_kind_and_decision_objects c.args.file.now (c.kinds.place + 1) (slice_index_or c.args.kinds.now c.kinds.place nothing) c.decision.result) (end_kinds_objects c.args.file.now c.args.found.now.decisions (c.kinds.place + 1) (drop (c.kinds.place + 1) c.args.kinds.now)) c.kinds.invariant
    (next_kind c.args.file.now c.args.found.now.decisions c.args.kinds.now c.kinds.place nothing c.decision.result (omega arith) c.decision.ensures)
    c.in_ok-write_kind_objects.ensures

pub returns : goal.returns
returns g c = ends (ap (end_kinds_objects c.args.file.now c.args.found.now.decisions c.kinds.place) (drop_all c.kinds.place c.args.kinds.now (omega arith))) c.kinds.invariant
