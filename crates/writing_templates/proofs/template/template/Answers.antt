-- `writing_templates::template::template` meets its contract, arm by arm.
use Rattle.std.proofs.Common.{sym, arith}
use Rattle.writing_templates.specs.Template.{template}
use Rattle.writing_templates.proofs.TemplateLaws.{template_other}
use Rattle.writing_templates.proofs.template.template.Goals as goal

pub returns-in-1 : goal.returns-in-1
unfolding template
returns-in-1 c = simp c.in-1.is

pub returns-in-2 : goal.returns-in-2
unfolding template
returns-in-2 c = simp c.in-2.is

pub returns-in-3 : goal.returns-in-3
unfolding template
returns-in-3 c = simp c.in-3.is

pub returns-in-4 : goal.returns-in-4
unfolding template
returns-in-4 c = simp c.in-4.is

pub returns-in-5 : goal.returns-in-5
unfolding template
returns-in-5 c = simp c.in-5.is

pub returns-in-6 : goal.returns-in-6
unfolding template
returns-in-6 c = simp c.in-6.is

pub returns-in-7 : goal.returns-in-7
unfolding template
returns-in-7 c = simp c.in-7.is

pub returns-in-8 : goal.returns-in-8
unfolding template
returns-in-8 c = simp c.in-8.is

pub returns-in-9 : goal.returns-in-9
unfolding template
returns-in-9 c = simp c.in-9.is

pub returns-in-10 : goal.returns-in-10
unfolding template
returns-in-10 c = simp c.in-10.is

pub returns-in-11 : goal.returns-in-11
unfolding template
returns-in-11 c = simp c.in-11.is

pub returns-in-12 : goal.returns-in-12
unfolding template
returns-in-12 c = simp c.in-12.is

pub returns-in-13 : goal.returns-in-13
unfolding template
returns-in-13 c = simp c.in-13.is

pub returns-in-14 : goal.returns-in-14
unfolding template
returns-in-14 c = simp c.in-14.is

pub returns-in-15 : goal.returns-in-15
unfolding template
returns-in-15 c = simp c.in-15.is

pub returns-in-16 : goal.returns-in-16
unfolding template
returns-in-16 c = simp c.in-16.is

pub returns-in-17 : goal.returns-in-17
unfolding template
returns-in-17 c = simp c.in-17.is

pub returns-in-18 : goal.returns-in-18
unfolding template
returns-in-18 c = simp c.in-18.is

pub returns-in_default : goal.returns-in_default
unfolding template
returns-in_default c = sym (template_other c.args.which (omega arith, omega arith, omega arith, omega arith, omega arith, omega arith, omega arith, omega arith, omega arith, omega arith, omega arith, omega arith, omega arith, omega arith, omega arith, omega arith, omega arith, omega arith))
