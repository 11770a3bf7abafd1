-- How the forms are written: a mnemonic, and a list of operands.
use Rattle.std.specs.Prelude.{ℕ, List, [], ◌∷◌, codes, Option, slice_index_or}
use Prim.Native.String.{String}
use Rattle.names.specs.declared.Named.{Named}
use Rattle.names.specs.Names.{filled, named, first_word}
use Rattle.forms.specs.declared.Form.{Form}
use Rattle.forms.specs.declared.Form.TheVariants as form
use Rattle.forms.specs.Table.{form_number}
use Rattle.text.specs.declared.syntax.Piece.{Piece}
use Rattle.text.specs.declared.syntax.Piece.TheVariants.{Comma, Open, Close, High, Middle, Low, SystemHigh, SystemMiddle, Signed5, Signed6, Signed8, Byte}
use Rattle.text.specs.declared.syntax.Operands.{Operands}
use Rattle.text.specs.declared.syntax.Operands.TheVariants as operands
use Rattle.text.specs.declared.syntax.Syntax.{Syntax}

abbrev pub pieces_of : Operands → List Piece
pieces_of operands.Nothing = []
pieces_of operands.HighRegister = High ∷ []
pieces_of operands.MiddleRegister = Middle ∷ []
pieces_of operands.TwoRegisters = High ∷ Comma ∷ Middle ∷ []
pieces_of operands.ThreeRegisters = High ∷ Comma ∷ Middle ∷ Comma ∷ Low ∷ []
pieces_of operands.Immediate = High ∷ Comma ∷ Middle ∷ Comma ∷ Signed5 ∷ []
pieces_of operands.Load = High ∷ Comma ∷ Signed6 ∷ Open ∷ Middle ∷ Close ∷ []
pieces_of operands.Store = Signed6 ∷ Open ∷ Middle ∷ Close ∷ Comma ∷ High ∷ []
pieces_of operands.Number = High ∷ Comma ∷ Signed8 ∷ []
pieces_of operands.Byte = High ∷ Comma ∷ Byte ∷ []
pieces_of operands.Output = Byte ∷ Comma ∷ High ∷ []
pieces_of operands.ReadSystem = High ∷ Comma ∷ SystemMiddle ∷ []
pieces_of operands.WriteSystem = SystemHigh ∷ Comma ∷ Middle ∷ []

abbrev row : String → Operands → Form → Named Syntax
row mnemonic o f = record { name = filled (codes mnemonic); value = record { operands = o; form = f } }

abbrev pub syntax_rows : List (Named Syntax)
syntax_rows =
    row "AND" operands.ThreeRegisters form.And
    ∷ row "OR" operands.ThreeRegisters form.Or
    ∷ row "XOR" operands.ThreeRegisters form.Xor
    ∷ row "NOT" operands.TwoRegisters form.Not
    ∷ row "ADD" operands.ThreeRegisters form.Add
    ∷ row "SUB" operands.ThreeRegisters form.Sub
    ∷ row "SHA" operands.ThreeRegisters form.Sha
    ∷ row "SHL" operands.ThreeRegisters form.Shl
    ∷ row "CMPLT" operands.ThreeRegisters form.Cmplt
    ∷ row "CMPLE" operands.ThreeRegisters form.Cmple
    ∷ row "CMPEQ" operands.ThreeRegisters form.Cmpeq
    ∷ row "CMPLTU" operands.ThreeRegisters form.Cmpltu
    ∷ row "CMPLEU" operands.ThreeRegisters form.Cmpleu
    ∷ row "ADDI" operands.Immediate form.Addi
    ∷ row "JZ" operands.TwoRegisters form.Jz
    ∷ row "JNZ" operands.TwoRegisters form.Jnz
    ∷ row "JMP" operands.MiddleRegister form.Jmp
    ∷ row "JAL" operands.TwoRegisters form.Jal
    ∷ row "CALLS" operands.MiddleRegister form.Calls
    ∷ row "LD" operands.Load form.Ld
    ∷ row "LDB" operands.Load form.Ldb
    ∷ row "ST" operands.Store form.St
    ∷ row "STB" operands.Store form.Stb
    ∷ row "MOVI" operands.Number form.Movi
    ∷ row "MOVIH" operands.Byte form.Movih
    ∷ row "BZ" operands.Number form.Bz
    ∷ row "BNZ" operands.Number form.Bnz
    ∷ row "IN" operands.Byte form.In
    ∷ row "OUT" operands.Output form.Out
    ∷ row "MUL" operands.ThreeRegisters form.Mul
    ∷ row "MULH" operands.ThreeRegisters form.Mulh
    ∷ row "MULHU" operands.ThreeRegisters form.Mulhu
    ∷ row "EI" operands.Nothing form.Ei
    ∷ row "DI" operands.Nothing form.Di
    ∷ row "RETI" operands.Nothing form.Reti
    ∷ row "GETIID" operands.HighRegister form.Getiid
    ∷ row "RDS" operands.ReadSystem form.Rds
    ∷ row "WRS" operands.WriteSystem form.Wrs
    ∷ row "WRPI" operands.TwoRegisters form.Wrpi
    ∷ row "WRVI" operands.TwoRegisters form.Wrvi
    ∷ row "WRPD" operands.TwoRegisters form.Wrpd
    ∷ row "WRVD" operands.TwoRegisters form.Wrvd
    ∷ row "FLUSH" operands.MiddleRegister form.Flush
    ∷ row "HALT" operands.Nothing form.Halt
    ∷ []

-- how a form is written
abbrev pub syntax_of : Form → Named Syntax
syntax_of f = slice_index_or syntax_rows (form_number f) (row "" operands.Nothing form.And)

-- the syntax whose mnemonic a text begins with
abbrev pub syntax_named : List ℕ → Option Syntax
syntax_named text = named syntax_rows (first_word text)
