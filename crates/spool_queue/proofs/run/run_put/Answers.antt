use Rattle.std.proofs.Common.{arith}
use Rattle.spool_queue.proofs.PutEnds.{crashes_from, put_durable, put_ends, put_fault, puts_from, source_said}
use Rattle.spool_queue.proofs.run.run_put.Goals as goal

pub returns-clause-puts : goal.returns-clause-puts
returns-clause-puts g c = λ list holds.
    puts_from g.D.Disk _ _ c.args.spool.now c.put_lines-answer.new.spool _ _ _ c.put_lines-answer.result _ _ c.put_lines-answer.ensures.puts (omega arith) c.say_spooled.ensures.said list holds

pub returns-clause-each_moment : goal.returns-clause-each_moment
returns-clause-each_moment g c = λ only list holds.
    crashes_from g.D.Disk _ _ _ _ _ c.put_lines-answer.result c.put_lines-answer.ensures.puts only list holds

pub returns-clause-durable : goal.returns-clause-durable
returns-clause-durable g c = put_durable g.D.Disk _ _ _ _ _ _ _ c.put_lines-answer.result _ _ c.put_lines-answer.ensures.puts (omega arith) c.say_spooled.ensures.said

pub returns-clause-status : goal.returns-clause-status
returns-clause-status g c = put_ends g.D.Disk _ _ _ _ _ _ _ c.put_lines-answer.result _ _ c.put_lines-answer.ensures.puts (omega arith) c.say_spooled.ensures.said c.put_lines-answer.ensures.never_unreachable

pub returns-clause-source_fault_only_where_faults_rose : goal.returns-clause-source_fault_only_where_faults_rose
returns-clause-source_fault_only_where_faults_rose g c = λ is.
    c.put_lines-answer.ensures.source_fault_only_where_faults_rose (source_said _ _ _ c.put_lines-answer.result _ _ c.say_spooled.ensures.said is)

pub returns-clause-disk_fault_only_where_faults_rose : goal.returns-clause-disk_fault_only_where_faults_rose
returns-clause-disk_fault_only_where_faults_rose g c = put_fault g.D.Disk _ _ _ _ _ _ _ c.put_lines-answer.result _ _ c.put_lines-answer.ensures.puts (omega arith) c.say_spooled.ensures.said
