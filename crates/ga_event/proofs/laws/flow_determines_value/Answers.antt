use Rattle.ga_event.proofs.Flowing.{alike, own_flows, own_kinds, sent_flows, taken_flows}
use Rattle.ga_event.proofs.laws.flow_determines_value.Goals as goal

pub returns-clause-own : goal.returns-clause-own
returns-clause-own c seen other n m part left right alike is = own_flows seen other n m alike left right part is

pub returns-clause-sent : goal.returns-clause-sent
returns-clause-sent c word other n m part left right is = sent_flows word n other m left right part is

pub returns-clause-taken : goal.returns-clause-taken
returns-clause-taken c word other n m part left right same is = taken_flows word n other m left right same part is

pub returns-clause-kind : goal.returns-clause-kind
returns-clause-kind c = own_kinds

pub returns-clause-alike : goal.returns-clause-alike
returns-clause-alike c = alike
