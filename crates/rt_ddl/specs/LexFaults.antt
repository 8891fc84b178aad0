-- An error of the tokens as an error of the schema.
use Rattle.rt_token.specs.declared.fault.LexFault.{LexFault}
use Rattle.rt_token.specs.declared.fault.LexFault.TheVariants as lex
use Rattle.rt_ddl.specs.declared.fault.SchemaFault.{SchemaFault}
use Rattle.rt_ddl.specs.declared.fault.SchemaFault.TheVariants as fault

abbrev pub of_lex : LexFault → SchemaFault
of_lex (lex.NotUtf8 at) = fault.Lex (lex.NotUtf8 at)
of_lex (lex.BadByte at) = fault.Lex (lex.BadByte at)
of_lex (lex.OpenText at) = fault.Lex (lex.OpenText at)
of_lex (lex.OpenComment at) = fault.Lex (lex.OpenComment at)
of_lex (lex.BigNumber at) = fault.Lex (lex.BigNumber at)
of_lex lex.NoMemory = fault.NoMemory
