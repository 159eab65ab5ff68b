use Rattle.ga_console.proofs.responder.execute_command_in_wording.Goals as goal

pub returns-in-Step : goal.returns-in-Step
returns-in-Step g c = rw c.in-Step.is c.write_step_reply.ensures

pub returns-in-Back : goal.returns-in-Back
returns-in-Back g c = rw c.in-Back.is c.write_back_reply.ensures

pub returns-in-Rewind : goal.returns-in-Rewind
returns-in-Rewind g c = rw c.in-Rewind.is c.write_rewind_reply.ensures

pub returns-in-Node : goal.returns-in-Node
returns-in-Node g c = rw c.in-Node.is (c.write_node_reply.ensures c.args.wording)

pub returns-in-Memory : goal.returns-in-Memory
returns-in-Memory g c = rw c.in-Memory.is (c.write_memory_reply.ensures c.args.wording)

pub returns-in-Trace : goal.returns-in-Trace
returns-in-Trace g c = rw c.in-Trace.is c.write_trace_reply.ensures

pub returns-in-Why : goal.returns-in-Why
returns-in-Why g c = rw c.in-Why.is c.write_why_reply.ensures

pub returns-in-Count : goal.returns-in-Count
returns-in-Count g c = rw c.in-Count.is (c.write_count_reply.ensures c.args.wording)

pub returns-in-Dump : goal.returns-in-Dump
returns-in-Dump g c = rw c.in-Dump.is c.write_dump_reply.ensures
