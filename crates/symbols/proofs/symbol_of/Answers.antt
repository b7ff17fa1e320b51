-- `symbols::symbol_of` meets its contract: the code's numbers are those of the symbols that the print's rows give.
-- Assumes nothing.
use mathlib.Core.List.{map}
use mathlib.Core.Path.{refl}
use Rattle.std.proofs.Common.{arith}
use Rattle.symbols.specs.declared.TheConstants.{SYMBOLS2, SYMBOLS3, SYMBOLS4}
use Rattle.symbols.specs.Coded.{symbol_at}
use Rattle.symbols.specs.Selection.{table2, table3, table4, table_of, symbol_of}
use Rattle.symbols.proofs.Codes.{listed, others}
use Rattle.symbols.proofs.symbol_of.Goals as goal

pub returns-in-2 : goal.returns-in-2
unfolding symbol_of table_of table2
returns-in-2 c = rw c.in-2.is (listed 2 c.args.code (map symbol_at SYMBOLS2) _ refl c.symbol_in.ensures)

pub returns-in-3 : goal.returns-in-3
unfolding symbol_of table_of table3
returns-in-3 c = rw c.in-3.is (listed 3 c.args.code (map symbol_at SYMBOLS3) _ refl c.symbol_in-in-3.ensures)

pub returns-in-4 : goal.returns-in-4
unfolding symbol_of table_of table4
returns-in-4 c = rw c.in-4.is (listed 4 c.args.code (map symbol_at SYMBOLS4) _ refl c.symbol_in-in-4.ensures)

pub returns-in_default : goal.returns-in_default
returns-in_default c = others c.args.size c.args.code (λ e. omega arith) (λ e. omega arith) (λ e. omega arith)
