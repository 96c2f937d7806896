use Rattle.std.proofs.Common.{rules}
use Rattle.classfile_reader.proofs.soundness.known.KnownTexts.is_in.Goals as goal

pub returns-in-ClassOrArray-clause-known : goal.returns-in-ClassOrArray-clause-known
returns-in-ClassOrArray-clause-known c = let here = rw c.in-ClassOrArray.is at c.is_known_in.ensures.known in search rules

pub returns-in-FieldName-clause-known : goal.returns-in-FieldName-clause-known
returns-in-FieldName-clause-known c = let here = rw c.in-FieldName.is at c.is_known_in-in-FieldName.ensures.known in search rules

pub returns-in-MethodName-clause-known : goal.returns-in-MethodName-clause-known
returns-in-MethodName-clause-known c = let here = rw c.in-MethodName.is at c.is_known_in-in-MethodName.ensures.known in search rules

pub returns-in-FieldDescriptor-clause-known : goal.returns-in-FieldDescriptor-clause-known
returns-in-FieldDescriptor-clause-known c = let here = rw c.in-FieldDescriptor.is at c.is_known_in-in-FieldDescriptor.ensures.known in search rules

pub returns-in-MethodDescriptor-clause-known : goal.returns-in-MethodDescriptor-clause-known
returns-in-MethodDescriptor-clause-known c = let here = rw c.in-MethodDescriptor.is at c.is_known_in-in-MethodDescriptor.ensures.known in search rules
