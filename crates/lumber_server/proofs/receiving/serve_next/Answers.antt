use Rattle.std.proofs.Common.{refl}
use Rattle.lumber_server.proofs.Visiting.{no_link, rose_from_none, serves_next_end, serves_next_one}
use Rattle.lumber_server.proofs.receiving.serve_next.Goals as goal

pub returns-in-Err-Rang-clause-next : goal.returns-in-Err-Rang-clause-next
returns-in-Err-Rang-clause-next g c = no_link _ _ _ _ _ _ _ _ c.accept_next.ensures.finished_kept c.accept_next.ensures.questions (λ e. cc) (λ e. cc)

pub returns-in-Err-Failed-clause-next : goal.returns-in-Err-Failed-clause-next
returns-in-Err-Failed-clause-next g c = no_link _ _ _ _ _ _ _ _ c.accept_next.ensures.finished_kept c.accept_next.ensures.questions (λ e. cc) (λ e. cc)

pub returns-in-Ended-clause-next : goal.returns-in-Ended-clause-next
returns-in-Ended-clause-next g c =
    serves_next_one _ _ _ _ _ _ _ _ _ _ _ c.in-Ok.ensures.begins c.accept_next.ensures.finished_kept c.accept_next.ensures.questions c.in-Ok.ensures.unused.idles c.in-Ended.ensures.serves
    c.finish.ensures.told (rose_from_none _ _ c.in-Ok.ensures.unused.faults (c.in-Ended.ensures.ended_only_where_link_faults_rose refl)) c.finish.ensures.idles_kept tt

pub returns-in-SendFault-clause-next : goal.returns-in-SendFault-clause-next
returns-in-SendFault-clause-next g c =
    serves_next_one _ _ _ _ _ _ _ _ _ _ _ c.in-Ok.ensures.begins c.accept_next.ensures.finished_kept c.accept_next.ensures.questions c.in-Ok.ensures.unused.idles c.in-SendFault.ensures.serves
    c.finish.ensures.told (rose_from_none _ _ c.in-Ok.ensures.unused.failed_sends (c.in-SendFault.ensures.send_fault_only_where_failed_sends_rose refl)) c.finish.ensures.idles_kept tt

pub returns-in-Bad-clause-next : goal.returns-in-Bad-clause-next
returns-in-Bad-clause-next g c =
    serves_next_one _ _ _ _ _ _ _ _ _ _ _ c.in-Ok.ensures.begins c.accept_next.ensures.finished_kept c.accept_next.ensures.questions c.in-Ok.ensures.unused.idles c.in-Bad.ensures.serves
    c.finish.ensures.told tt c.finish.ensures.idles_kept tt

pub returns-in-OutFault-clause-next : goal.returns-in-OutFault-clause-next
returns-in-OutFault-clause-next g c =
    serves_next_end _ _ _ _ _ _ _ _ _ _ _ _ c.in-Ok.ensures.begins c.accept_next.ensures.finished_kept c.accept_next.ensures.questions c.in-Ok.ensures.unused.idles c.in-OutFault.ensures.serves
    c.finish.ensures.told tt c.finish.ensures.idles_kept (λ e. cc) (λ e. cc)

pub returns-in-Stopped-clause-next : goal.returns-in-Stopped-clause-next
returns-in-Stopped-clause-next g c =
    serves_next_end _ _ _ _ _ _ _ _ _ _ _ _ c.in-Ok.ensures.begins c.accept_next.ensures.finished_kept c.accept_next.ensures.questions c.in-Ok.ensures.unused.idles c.in-Stopped.ensures.serves
    c.finish.ensures.told tt c.finish.ensures.idles_kept (λ e. cc) (λ e. cc)

pub returns-in-NoMemory-clause-next : goal.returns-in-NoMemory-clause-next
returns-in-NoMemory-clause-next g c =
    serves_next_end _ _ _ _ _ _ _ _ _ _ _ _ c.in-Ok.ensures.begins c.accept_next.ensures.finished_kept c.accept_next.ensures.questions c.in-Ok.ensures.unused.idles c.in-NoMemory.ensures.serves
    c.finish.ensures.told tt c.finish.ensures.idles_kept (λ e. cc) (λ e. cc)
