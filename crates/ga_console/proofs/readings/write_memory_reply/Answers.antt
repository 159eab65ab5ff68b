use Rattle.std.proofs.Common.{rules, ap, inl, refl}
use Rattle.ga_display.specs.Texts.{memory_word_text}
use Rattle.ga_console.proofs.ReplyLemmas.{replies}
use Rattle.ga_console.proofs.readings.write_memory_reply.Goals as goal

pub returns : goal.returns
returns g c = λ wording. (
  search rules,
  λ before said h. (
    memory_word_text c.args.node c.args.address c.memory.result,
    inl (replies _ _ c.args.lab.now c.args.lab.now (ap (memory_word_text c.args.node c.args.address) c.memory.ensures) refl),
    c.write_memory_word.ensures.1 before said h,
  ),
)
