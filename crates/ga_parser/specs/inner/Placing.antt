-- Tokens that were read, with their columns.
use Rattle.std.specs.Prelude.{List, map}
use Rattle.ga_parser.specs.declared.scan.Token.{Token}
use Rattle.ga_parser.specs.Saying.{PlacedToken, token_content}

abbrev pub placed : Token → PlacedToken
placed token = record { said = token_content token; column = token.column }

abbrev pub placed_all : List Token → List PlacedToken
placed_all tokens = map placed tokens
