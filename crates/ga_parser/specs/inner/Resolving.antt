-- What code that resolves constants says of the words so far.
use Rattle.std.specs.Prelude.{map}
use Rattle.ga_parser.specs.declared.constants.Resolving.{Resolving}
use Rattle.ga_parser.specs.declared.constants.Awaited.{Awaited as AwaitedIn}
use Rattle.ga_parser.specs.declared.constants.Awaited.TheVariants.{Any as AnyIn, Constant as ConstantIn, Name as NameIn}
use Rattle.ga_parser.specs.Constants.{ConstantAndLabelNames, AwaitedWord, ConstantResolution}
use Rattle.ga_parser.specs.Constants.AwaitedWord.{Any, Constant, Name}
use Rattle.ga_parser.specs.inner.Placing.{placed, placed_all}

abbrev pub awaited_word_view : AwaitedIn → AwaitedWord
awaited_word_view AnyIn = Any
awaited_word_view (ConstantIn number) = Constant (placed number)
awaited_word_view (NameIn number constant) = Name (placed number) (placed constant)

abbrev pub known_names_of_parser : Resolving → ConstantAndLabelNames
known_names_of_parser resolving = record { names = resolving.names; numbers = map (λ number. number.now) resolving.numbers.items }

abbrev pub resolution_of_parser : Resolving → ConstantResolution
resolution_of_parser resolving = record { words = placed_all resolving.words.items; known = known_names_of_parser resolving; awaited = awaited_word_view resolving.awaited }
