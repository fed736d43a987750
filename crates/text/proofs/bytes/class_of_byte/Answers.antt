-- What is left of `class_of_byte`: the table is computed from the definition, entry by entry, and compared once.
use Rattle.std.proofs.Common.{refl, arith}
use Rattle.text.specs.declared.bytes.ByteClass.TheVariants.{Letter}
use Rattle.text.specs.declared.bytes.TheConstants.{CLASSES}
use Rattle.text.specs.definitions.ByteClass.{byte_class}
use Rattle.text.specs.inner_contracts.ByteTables.{tabulate, number_of}
use Rattle.text.proofs.laws.ByteTableLaws.{numbered_at}
use Rattle.text.proofs.bytes.class_of_byte.Goals as goal

pub returns : goal.returns
unfolding tabulate byte_class
returns c = rw c.from.ensures (numbered_at number_of byte_class CLASSES refl Letter c.args.b (omega arith))
